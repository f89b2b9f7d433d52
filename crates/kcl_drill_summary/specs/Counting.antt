-- How a shard's records are counted, read by read, and how the counts make up a drill's summary.
use Rattle.std.specs.Prelude.{ℕ, ◌≡◌, ◌+◌, ◌<◌, ◌≤◌, ◌^◌, ◌==◌, true, false, nat_lt, if◌then◌else◌, List, [], ◌∷◌}
use Rattle.std.specs.Prelude.{length, Option, Some, None, Result, Ok}
use Rattle.std.specs.List.{AllByRecursion, filter, find}
use Rattle.kds_base.specs.declared.lease_key.Checkpoint.{Checkpoint}
use Rattle.kds_base.specs.declared.lease_key.ShardRef.{ShardRef}
use Rattle.kds_defs.specs.declared.command.Turn.{Turn}
use Rattle.kds_defs.specs.declared.reply.Iter.{Iter}
use Rattle.kds_defs.specs.declared.reply.Refusal.{Refusal}
use Rattle.kds_defs.specs.declared.reply.Reply.{Reply}
use Rattle.kds_defs.specs.declared.reply.Reply.TheVariants as reply
use Rattle.kds_defs.specs.declared.reply.Row.{Row}
use Rattle.kds_defs.specs.Histories.{journal}
use Rattle.kds_defs.specs.Journal.{Journal}
use Rattle.kds_defs.specs.Keys.{same_key}
use Rattle.kds_defs.specs.Lawful.{IsHistory}
use Rattle.kds_defs.specs.Leases.{row, checkpoint_in}
use Rattle.kds_defs.specs.Listings.{iterator_at}
use Rattle.kds_defs.specs.Records.{Logged, left_from, next_number, records}
use Rattle.kds_defs.specs.Shards.{is_listed}
use Rattle.kds_defs.specs.StreamCommands.{last_number}
use Rattle.kds_defs.specs.Streams.{is_live, stream_named, trim_floor}
use Rattle.kcl_laws.specs.Recorded.{AreDrawn, IsSized}
use Rattle.kcl_drill.specs.Generated.{drill_name}
use Rattle.kcl_drill.specs.Summed.{Summed, summed, sum_of, bytes_of}
use Rattle.kcl_drill_summary.specs.declared.counting.Count.{Count}

-- The counts so far and the uncounted records `rest` make up all records.
pub record CountsTo (count bytes : ℕ) (rest all : List Logged) : Type 0 where
  pub records : count + length rest ≡ length all
  pub payload : bytes + bytes_of rest ≡ bytes_of all

-- The iterator from which reading goes on, if it is above `position`; otherwise None.
abbrev pub next_above : (position : ℕ) (next : Option Iter) → Option Iter
next_above position None = None
next_above position (Some next) = if nat_lt position next.position then Some next else None

-- None of the records arrived before the trim floor `floor`, so none is trimmed.
abbrev pub AreAbove : (floor : ℕ) (rs : List Logged) → Type 0
AreAbove floor rs = AllByRecursion (λ (r : Logged). nat_lt r.arrival floor ≡ false) rs

-- The shard is listed in a live stream, with untrimmed records of bounded size and in order.
pub record CanCount (log : Journal) (c s sh : ℕ) : Type 0 where
  pub live : is_live log s ≡ true
  pub listed : is_listed log c s sh ≡ true
  pub above : AreAbove (trim_floor log c s) (records log s sh)
  pub drawn : AreDrawn log s sh
  pub fits : next_number log s ≤ last_number
  pub sized : AllByRecursion IsSized (records log s sh)

-- The counts and the records left from `next` on make up all records of the shard; None: all are counted.
abbrev pub GoesOn : (log : Journal) (c s sh count bytes : ℕ) (next : Option Iter) → Type 0
GoesOn log c s sh count bytes None = (count ≡ length (records log s sh)) × (bytes ≡ bytes_of (records log s sh))
GoesOn log c s sh count bytes (Some next) =
    (next ≡ iterator_at c s sh next.position)
    × CountsTo count bytes (left_from log c s sh next.position) (records log s sh)

-- The iterator in an answer to GetShardIterator; None without one, or if it is of another stream than `s`.
abbrev pub iterator_in : (result : Result Reply Refusal) (s : ℕ) → Option Iter
iterator_in (Ok (reply.Iterator iter)) s = if iter.stream == s then Some iter else None
iterator_in _ s = None

-- The count `n` is right for the key's shard; there is none exactly if the key is of another stream than `s`.
abbrev pub CountsKey : (log : Journal) (s : ℕ) (key : ShardRef) (n : Option Count) → Type 0
CountsKey log s key None = (key.stream == s) ≡ false
CountsKey log s key (Some n) =
    ((key.stream == s) ≡ true) × (n.count ≡ length (records log s key.shard))
    × (n.bytes ≡ bytes_of (records log s key.shard))

-- The shard of each key of the stream `s` can be counted.
abbrev pub AreCountable : (log : Journal) (c s : ℕ) (keys : List ShardRef) → Type 0
AreCountable log c s keys =
    AllByRecursion (λ (key : ShardRef). (key.stream == s) ≡ true → CanCount log c s key.shard) keys

-- The keys of the stream `s`.
abbrev pub of_stream : (s : ℕ) (keys : List ShardRef) → List ShardRef
of_stream s keys = filter (λ (key : ShardRef). key.stream == s) keys

-- The summary of the key's shard, with its records and its row's checkpoint.
abbrev pub summed_key : (log : Journal) (key : ShardRef) → Summed
summed_key log key = summed key.shard (records log key.stream key.shard) (checkpoint_in (row log key))

-- The entry that the code makes for the key's shard; none if the shard wasn't counted.
abbrev pub told_of : (key : ShardRef) (n : Option Count) (mark : Checkpoint) → List Summed
told_of key None mark = []
told_of key (Some n) mark = record { no = key.shard; count = n.count; bytes = n.bytes; checkpoint = mark } ∷ []

-- The totals of records and of payload bytes are below 2^128.
abbrev pub AreFew : (xs : List Summed) → Type 0
AreFew xs = (sum_of (λ x. x.count) xs < 2 ^ 128) × (sum_of (λ x. x.bytes) xs < 2 ^ 128)

-- After the lawful history `h` the drill's stream is live, and at the clock `c` none of its records is trimmed.
pub record CanSum (h : List Turn) (c : ℕ) : Type 0 where
  pub lawful : IsHistory h
  pub stream : ℕ
  pub named : stream_named (journal h) drill_name ≡ Some stream
  pub whole : (sh : ℕ) → AreAbove (trim_floor (journal h) c stream) (records (journal h) stream sh)

-- The first row with the key `key`, or None.
abbrev pub row_among : (rows : List Row) (key : ShardRef) → Option Row
row_among rows key = find (λ (r : Row). same_key r.key key) rows
