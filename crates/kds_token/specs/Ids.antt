-- The ids of shards (Kinesis API Reference, Shard, ShardId).
use Rattle.std.specs.Prelude.{ℕ, ◌-◌, ◌^◌, List, ◌++◌, length, codes, decimal, replicate, drop, ◌&&◌, nat_lt}
use Rattle.std.specs.Prelude.{if◌then◌else◌, Option, Some, None}
use Rattle.std.specs.Str.{bytes_eq}
use Rattle.std.specs.Str.Parse.{digits_value}

-- The decimal digits of `n`, filled up with leading zeros to twelve.
abbrev pub twelve_digits : (n : ℕ) → List ℕ
twelve_digits n = replicate (12 - length (decimal n)) 48 ++ decimal n

-- The id of shard `n`: `shardId-` and at least twelve digits.
abbrev pub shard_id : (n : ℕ) → List ℕ
shard_id n = codes "shardId-" ++ twelve_digits n

-- The number `n`, if it is below 2^64 and `text` is the id of shard `n`.
abbrev pub if_id : (text : List ℕ) (n : ℕ) → Option ℕ
if_id text n = if nat_lt n (2 ^ 64) && bytes_eq text (shard_id n) then Some n else None

-- The number of the shard whose id `text` is, which only the digits after `shardId-` can denote.
unfoldable pub id_of : (text : List ℕ) → Option ℕ
id_of text = if_id text (digits_value 10 (drop 8 text))
