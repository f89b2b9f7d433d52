-- The name of a stream is valid UTF-8.
use Rattle.std.proofs.Common.{◌≡◌, ℕ, zero, suc, ◌<◌, List, [], ◌∷◌, true, arith}
use Rattle.std.specs.List.{list_all}
use Rattle.std.specs.Str.{IsUtf8, IsAscii}
use Rattle.std.proofs.lemmas.Str.{IsUtf8-from_ascii}
use Rattle.std.proofs.lemmas.Bool.Decides.{nat_tests}
use Rattle.std.proofs.lemmas.Bool.{and_parts}
use Rattle.kds_base.specs.Names.{is_name, is_name_byte}

byte_small : (b : ℕ) → is_name_byte b ≡ true → b < 128
byte_small b h = grind (arith, nat_tests)

bytes_ascii : (text : List ℕ) → list_all is_name_byte text ≡ true → IsAscii text
bytes_ascii [] h i = omega arith
bytes_ascii (b ∷ text) h zero = byte_small b (and_parts (is_name_byte b) (list_all is_name_byte text) h).0
bytes_ascii (b ∷ text) h (suc i) = bytes_ascii text (and_parts (is_name_byte b) (list_all is_name_byte text) h).1 i

pub name_is_text : (name : List ℕ) → is_name name ≡ true → IsUtf8 name
name_is_text name h = IsUtf8-from_ascii name (bytes_ascii name (and_parts _ (list_all is_name_byte name) h).1)
