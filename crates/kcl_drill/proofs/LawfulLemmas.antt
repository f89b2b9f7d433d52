-- The records that a generator makes have values in the ranges of the API.
use Rattle.std.proofs.Common.{◌≡◌, ℕ, zero, suc, ◌^◌, ◌%◌, ◌<◌, ◌≤◌, length, ap, arith}
use Rattle.std.specs.Str.{chars, IsAscii}
use Rattle.std.proofs.lemmas.Fmt.{IsAscii-decimal, length-decimal-le}
use Rattle.std.proofs.lemmas.List.{length-replicate}
use Rattle.std.proofs.lemmas.Str.{IsUtf8-from_ascii, chars-IsAscii}
use Rattle.kds_defs.specs.Lawful.{IsPartitionKey, IsItem}
use Rattle.kcl_drill.specs.Generated.{key_of, record_of}

ascii_key : (x : ℕ) → x < 2 ^ 64 → IsAscii (key_of x)
ascii_key x fits zero = omega arith
ascii_key x fits (suc i) = IsAscii-decimal x fits i

short_key : (x : ℕ) → x < 2 ^ 64 → length (key_of x) ≤ 21
short_key x fits = let d = length-decimal-le 20 x (omega arith) (omega arith) fits in omega arith

key_lawful : (x : ℕ) → x < 2 ^ 64 → IsPartitionKey (key_of x)
key_lawful x fits =
    let same : length (chars (key_of x)) ≡ length (key_of x) =
    ap length (chars-IsAscii (key_of x) (ascii_key x fits)) in
    record {
      text = IsUtf8-from_ascii (key_of x) (ascii_key x fits);
      some = omega arith;
      few = let short = short_key x fits in omega arith;
    }

-- The API allows the record if `x` is below 2^64 and the hash key below 2^128.
pub record_lawful : (i x : ℕ) → x < 2 ^ 64 → (record_of i x).hash < 2 ^ 128 → IsItem (record_of i x)
record_lawful i x fits hash =
    record {
      key = key_lawful x fits;
      hash = hash;
      bytes = let n = length-replicate (x % 64) (i % 256) in let short = short_key x fits in omega arith;
    }
