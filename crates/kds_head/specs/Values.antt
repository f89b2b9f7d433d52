-- What headers state: the body's length, the operation, whether it is JSON, and whether to close.
use Rattle.std.specs.Prelude.{ℕ, List, [], Bool, false, ◌&&◌, ◌||◌, ◌==◌, nat_lt, nat_le, nat_eq, length, codes}
use Rattle.std.specs.Prelude.{if◌then◌else◌, Option, Some, None, option_and_then, drop}
use Rattle.std.specs.Option.{option_map_or}
use Rattle.std.specs.List.{list_all, starts_with}
use Rattle.std.specs.Char.{is_ascii_digit}
use Rattle.std.specs.Str.{bytes_eq}
use Rattle.std.specs.Str.Parse.{digits_value}
use Rattle.kds_head.specs.declared.numbers.TheConstants.{LENGTH_DIGITS}
use Rattle.kds_head.specs.Headers.{Headers, only_value, any_has}

-- Whether the text is 1 to 19 digits, which state a number of bytes (RFC 9110, section 8.6).
abbrev pub is_byte_count : (text : List ℕ) → Bool
is_byte_count text = nat_lt 0 (length text) && nat_le (length text) LENGTH_DIGITS && list_all is_ascii_digit text

-- The number that 1 to 19 digits denote; any other text gives None.
unfoldable pub byte_count : (text : List ℕ) → Option ℕ
byte_count text = if is_byte_count text then Some (digits_value 10 text) else None

-- The number in the only header Content-Length; None for several, or for a value of another form (RFC 9110).
unfoldable pub body_length : (headers : Headers) → Option ℕ
body_length headers = option_and_then byte_count (only_value (codes "Content-Length") headers)

-- The text after `Kinesis_20131202.`, or no bytes if `target` doesn't begin so.
abbrev pub named_operation : (target : List ℕ) → List ℕ
named_operation target =
    if starts_with nat_eq target (codes "Kinesis_20131202.") then drop (length (codes "Kinesis_20131202."))
    target else []

-- The operation in the only header X-Amz-Target, or no bytes (Kinesis API Reference, Making API Requests).
unfoldable pub operation : (headers : Headers) → List ℕ
operation headers = option_map_or named_operation (only_value (codes "X-Amz-Target") headers) []

-- Whether the type is `application/x-amz-json-1.1`, alone or before a `;` (RFC 9110, section 8.3.1).
abbrev pub is_json : (media_type : List ℕ) → Bool
is_json media_type = bytes_eq media_type (codes "application/x-amz-json-1.1")
    || starts_with nat_eq media_type (codes "application/x-amz-json-1.1;")

-- Whether the only header Content-Type has the service's JSON type.
unfoldable pub says_json : (headers : Headers) → Bool
says_json headers = option_map_or is_json (only_value (codes "Content-Type") headers) false

-- Whether the connection closes: HTTP/1.0, or a header `Connection: close` (RFC 9112, section 9.3).
abbrev pub closes : (minor : ℕ) (headers : Headers) → Bool
closes minor headers = minor == 0 || any_has (codes "Connection") (codes "close") headers
