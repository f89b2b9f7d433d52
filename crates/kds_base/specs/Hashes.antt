-- The hash key of a partition key (Kinesis API Reference, PutRecord; MD5 is RFC 1321).
use Rattle.std.specs.Prelude.{ℕ, List}
use Rattle.std.specs.Int.{w128, from_be_bytes}
use Rattle.md5.specs.Md5.{md5}

-- The MD5 of a partition key, as a big-endian number (PutRecord; RFC 1321).
abbrev pub key_hash : (key : List ℕ) → ℕ
key_hash key = from_be_bytes w128 (md5 key)
