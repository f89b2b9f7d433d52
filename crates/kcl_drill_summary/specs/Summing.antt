-- What each step of a summary does on any machine; a step promises nothing if memory runs out.
use Rattle.std.specs.Prelude.{ℕ, ◌≡◌, ◌+◌, ◌<◌, ◌^◌, ◌==◌, true, max, List, length, map, Option, Some, Result, Ok, IfOk}
use Rattle.kds_base.specs.declared.lease_key.ShardRef.{ShardRef}
use Rattle.kds_defs.specs.declared.command.Turn.{Turn}
use Rattle.kds_defs.specs.declared.reply.Iter.{Iter}
use Rattle.kds_defs.specs.declared.reply.Refusal.{Refusal}
use Rattle.kds_defs.specs.declared.reply.Reply.{Reply}
use Rattle.kds_defs.specs.declared.reply.Reply.TheVariants as reply
use Rattle.kds_defs.specs.declared.reply.Row.{Row}
use Rattle.kds_defs.specs.declared.reply.Shard.{Shard}
use Rattle.kds_defs.specs.declared.reply.Stored.{Stored}
use Rattle.kds_defs.specs.Histories.{clock, journal}
use Rattle.kds_defs.specs.Journal.{Journal}
use Rattle.kds_defs.specs.Leases.{rows}
use Rattle.kds_defs.specs.Listings.{iterator_at}
use Rattle.kds_defs.specs.Records.{logged, records}
use Rattle.kds_defs.specs.Streams.{stream_named}
use Rattle.kcl_drill.specs.Generated.{drill_name}
use Rattle.kcl_drill.specs.Summed.{Summed, bytes_of}
use Rattle.kcl_drill_summary.specs.declared.counting.Count.{Count}
use Rattle.kcl_drill_summary.specs.Counting.{AreCountable, CanCount, CountsKey, GoesOn, next_above, of_stream}
use Rattle.kcl_drill_summary.specs.Counting.{summed_key}
use Rattle.kcl_drill_summary.specs.Reads.{HasRead}

-- The batch in `a` is added to the counts if the sums stay below 2^64 records and 2^128 bytes.
abbrev pub Absorbs : (count bytes position : ℕ) (a : Result Reply Refusal) (count' bytes' : ℕ) (next' : Option Iter) →
    Type 0
Absorbs count bytes position a count' bytes' next' =
    (batch : List Stored) (next : Option Iter) (behind : ℕ) (children : List Shard)
    → a ≡ Ok (reply.Records batch next behind children)
    → (count + length batch < 2 ^ 64 → count' ≡ count + length batch)
    × (bytes + bytes_of (map logged batch) < 2 ^ 128 → bytes' ≡ bytes + bytes_of (map logged batch))
    × (next' ≡ next_above position next)

-- After one read from `iter`, the new counts and the records left still make up the shard (`GoesOn`).
abbrev pub ReadsOn : {E : Type 0}
    → (stands : List Turn → Type 0) (actor moment : ℕ) (iter : Iter) (count : Count)
    (result : Result (Count × Option Iter) E) → Type 0
ReadsOn stands actor moment iter count result =
    (h : List Turn) → HasRead stands actor moment h → CanCount (journal h) (max (clock h) moment) iter.stream iter.shard
    → GoesOn (journal h) (max (clock h) moment) iter.stream iter.shard count.count count.bytes (Some iter)
    → IfOk result (λ r. GoesOn (journal h) (max (clock h) moment) iter.stream iter.shard r.0.count r.0.bytes r.1)

-- From the beginning of a shard that can be counted, the step counts all its records.
abbrev pub CountsFrom : {E : Type 0}
    → (stands : List Turn → Type 0) (actor moment : ℕ) (iter : Iter) (result : Result Count E) → Type 0
CountsFrom stands actor moment iter result =
    (h : List Turn) → HasRead stands actor moment h → CanCount (journal h) (max (clock h) moment) iter.stream iter.shard
    → iter ≡ iterator_at (max (clock h) moment) iter.stream iter.shard 0
    → IfOk result (λ n. (n.count ≡ length (records (journal h) iter.stream iter.shard))
    × (n.bytes ≡ bytes_of (records (journal h) iter.stream iter.shard)))

-- The step counts the shard of a key of the drill's stream, and gives no count for another key.
abbrev pub FindsCount : {E : Type 0}
    → (stands : List Turn → Type 0) (actor moment : ℕ) (key : ShardRef) (result : Result (Option Count) E) → Type 0
FindsCount stands actor moment key result =
    (h : List Turn) (s : ℕ) → HasRead stands actor moment h → stream_named (journal h) drill_name ≡ Some s
    → ((key.stream == s) ≡ true → CanCount (journal h) (max (clock h) moment) s key.shard)
    → IfOk result (λ found. CountsKey (journal h) s key found)

-- The machine has only read since `h`, `among` are the rows after it, and the shards of `s` can be counted.
pub record CanTell (stands : List Turn → Type 0) (actor moment : ℕ) (h : List Turn) (s : ℕ) (keys : List ShardRef)
    (among : List Row) : Type 0 where
  pub read : HasRead stands actor moment h
  pub rows : among ≡ rows (journal h)
  pub named : stream_named (journal h) drill_name ≡ Some s
  pub countable : AreCountable (journal h) (max (clock h) moment) s keys

-- `xs` is the summary of the shards of `s` among the keys, in their order.
abbrev pub IsTold : (log : Journal) (s : ℕ) (keys : List ShardRef) (xs : List Summed) → Type 0
IsTold log s keys xs = xs ≡ map (summed_key log) (of_stream s keys)
