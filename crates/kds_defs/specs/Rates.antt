-- What a shard accepts within a second (Kinesis Data Streams Developer Guide, Quotas and Limits); times in ms.
use Rattle.std.specs.Prelude.{ℕ, ◌+◌, ◌/◌, Bool, ◌==◌, ◌&&◌, ◌||◌, nat_le, nat_lt, if◌then◌else◌, List, [], ◌∷◌, length}
use Rattle.std.specs.List.{filter}
use Rattle.kds_defs.specs.declared.entry.Entry.{Entry}
use Rattle.kds_defs.specs.declared.entry.Entry.TheVariants as entry
use Rattle.kds_defs.specs.declared.limits.TheConstants.{SECOND, SECOND_BYTES, SECOND_RECORDS}
use Rattle.kds_defs.specs.Journal.{Line, Journal}

-- A put as the limits on throughput count it: its time, and its payload and key together in bytes.
pub record SizedPut : Type 0 where
  pub clock : ℕ
  pub bytes : ℕ

-- ---- The window of a time: the puts in the same second

-- Whether two times are in the same second of the clock.
abbrev pub is_same_second : (a b : ℕ) → Bool
is_same_second a b = a / SECOND == b / SECOND

-- The puts of a shard in the same second as the time `c`.
abbrev pub window : (c : ℕ) (puts : List SizedPut) → List SizedPut
window c puts = filter (λ p. is_same_second p.clock c) puts

-- The bytes of these puts together.
abbrev pub bytes_of : (puts : List SizedPut) → ℕ
bytes_of [] = 0
bytes_of (p ∷ puts) = p.bytes + bytes_of puts

-- Whether a window has no room for a record of `bytes` bytes; an empty window has room for any record.
abbrev pub is_too_much : (records held bytes : ℕ) → Bool
is_too_much records held bytes =
    nat_le SECOND_RECORDS records || (nat_lt 0 records && nat_lt SECOND_BYTES (held + bytes))

-- Whether the second of `c` is full: 1,000 records, or some and, with `bytes` more, over 1,048,576 bytes.
abbrev pub is_throttled : (puts : List SizedPut) (c bytes : ℕ) → Bool
is_throttled puts c bytes = is_too_much (length (window c puts)) (bytes_of (window c puts)) bytes

-- ---- The puts of a shard

-- The value of `puts` after `line` with this entry.
abbrev pub puts_after : (line : Line) (entry : Entry) (s sh : ℕ) (old : List SizedPut) → List SizedPut
puts_after line (entry.Put stream shard seq hash bytes key_bytes) s sh old =
    if (stream == s) && (shard == sh)
    then record { clock = line.clock; bytes = bytes + key_bytes } ∷ old
    else old
puts_after line _ s sh old = old

-- The puts of a shard, the newest first.
abbrev pub puts : (log : Journal) (s sh : ℕ) → List SizedPut
puts [] s sh = []
puts (line ∷ log) s sh = puts_after line line.what s sh (puts log s sh)
