-- The headers of a head, each a name and a value without white space around it (RFC 9110, section 5).
use Rattle.std.specs.Prelude.{ℕ, List, Bool, ◌&&◌, ◌==◌, map, find, count_by, if◌then◌else◌, Option, None}
use Rattle.std.specs.Option.{option_map}
use Rattle.std.specs.List.{list_any}
use Rattle.std.specs.Char.{to_ascii_lowercase}
use Rattle.std.specs.Str.{bytes_eq}

-- The headers of a head in order, as pairs of name and value.
abbrev pub Headers : Type 0
Headers = List (List ℕ × List ℕ)

-- Whether the words are equal without regard to ASCII case (RFC 9110, section 5.1).
abbrev pub same_word : (a b : List ℕ) → Bool
same_word a b = bytes_eq (map to_ascii_lowercase a) (map to_ascii_lowercase b)

-- Whether the header has the name, without regard to ASCII case.
abbrev pub has_name : (name : List ℕ) (header : List ℕ × List ℕ) → Bool
has_name name header = same_word header.0 name

-- Whether the header has the name and the value, both without regard to ASCII case.
abbrev pub has_name_and_value : (name value : List ℕ) (header : List ℕ × List ℕ) → Bool
has_name_and_value name value header = same_word header.0 name && same_word header.1 value

-- The number of headers with the name.
unfoldable pub count_named : (name : List ℕ) (headers : Headers) → ℕ
count_named name headers = count_by (has_name name) headers

-- The value of the first header with the name.
abbrev pub first_value : (name : List ℕ) (headers : Headers) → Option (List ℕ)
first_value name headers = option_map (λ h. h.1) (find (has_name name) headers)

-- The value of the header with the name, if exactly one header has it.
unfoldable pub only_value : (name : List ℕ) (headers : Headers) → Option (List ℕ)
only_value name headers = if count_named name headers == 1 then first_value name headers else None

-- Whether some header has the name and the value, both without regard to ASCII case.
unfoldable pub any_has : (name value : List ℕ) (headers : Headers) → Bool
any_has name value headers = list_any (has_name_and_value name value) headers
