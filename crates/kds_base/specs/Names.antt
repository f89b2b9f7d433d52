-- Which texts are names of streams (Kinesis API Reference, CreateStream, StreamName).
use Rattle.std.specs.Prelude.{ℕ, List, length, Bool, true, ◌≡◌, ◌&&◌, ◌||◌, ◌==◌, nat_lt, nat_le, if◌then◌else◌, Option}
use Rattle.std.specs.Prelude.{Some, None}
use Rattle.std.specs.Char.{is_ascii_alphanumeric}
use Rattle.std.specs.List.{list_all}

-- Whether a byte is an ASCII letter or digit, `_`, `.` or `-`.
abbrev pub is_name_byte : (b : ℕ) → Bool
is_name_byte b = is_ascii_alphanumeric b || b == 95 || b == 46 || b == 45

-- Whether a text is a name: 1 to 128 bytes, all allowed in names.
abbrev pub is_name : (text : List ℕ) → Bool
is_name text = nat_lt 0 (length text) && nat_le (length text) 128 && list_all is_name_byte text

-- The text has 1 to 128 bytes: ASCII letters, digits, `_`, `.` and `-` (CreateStream, StreamName).
abbrev pub IsName : (text : List ℕ) → Type 0
IsName text = is_name text ≡ true

-- The text if it is a name.
abbrev pub name_of : (text : List ℕ) → Option (List ℕ)
name_of text = if is_name text then Some text else None
