-- Which rows can be drained, and when a row is drained: its shard was read to the end, and its checkpoint says so.
use Rattle.std.specs.Prelude.{ℕ, ◌≡◌, ◌<◌, ◌≤◌, ◌^◌, max, true, false, if◌then◌else◌, List, length, Option, Some}
use Rattle.std.specs.List.{AllByRecursion}
use Rattle.std.specs.Option.{option_map}
use Rattle.kds_base.specs.declared.lease_key.Checkpoint.{Checkpoint}
use Rattle.kds_base.specs.declared.lease_key.Checkpoint.TheVariants.{TrimHorizon, At, ShardEnd}
use Rattle.kds_base.specs.declared.lease_key.ShardRef.{ShardRef}
use Rattle.kds_defs.specs.declared.command.Origin.TheVariants as origin
use Rattle.kds_defs.specs.declared.command.Turn.{Turn}
use Rattle.kds_defs.specs.declared.reply.Row.{Row}
use Rattle.kds_defs.specs.Histories.{clock, journal}
use Rattle.kds_defs.specs.Journal.{Journal}
use Rattle.kds_defs.specs.Lawful.{IsHistory}
use Rattle.kds_defs.specs.Leases.{row, origin_of}
use Rattle.kds_defs.specs.Listings.{is_closed_at}
use Rattle.kds_defs.specs.Records.{Logged, left_from, records}
use Rattle.kds_defs.specs.Shards.{ShardState, is_closed_below, shard_at, shards, start_of}
use Rattle.kds_defs.specs.Streams.{is_live, trim_floor}
use Rattle.kcl_drill.specs.Summed.{last_checkpoint}
use Rattle.kcl_laws.specs.Recorded.{HasFrom}
use Rattle.kcl_drill_summary.specs.Counting.{AreAbove}

-- At the clock `c`, no record of the stream is trimmed, and none of its shards is expired.
pub record IsWhole (log : Journal) (c s : ℕ) : Type 0 where
  pub above : (sh : ℕ) → AreAbove (trim_floor log c s) (records log s sh)
  pub listed : AllByRecursion (λ (x : ShardState). is_closed_below (trim_floor log c s) x ≡ false) (shards log s)

-- The history is lawful and short; at the moment, live streams are whole (`IsWhole`), and rows from TRIM_HORIZON.
pub record CanDrain (h : List Turn) (moment : ℕ) : Type 0 where
  pub lawful : IsHistory h
  pub few : length h < 2 ^ 32
  pub whole : (s : ℕ) → is_live (journal h) s ≡ true → IsWhole (journal h) (max (clock h) moment) s
  pub horizon : (key : ShardRef) (r : Row) → row (journal h) key ≡ Some r
      → origin_of (journal h) key ≡ Some origin.TrimHorizon

-- ---- What a journal says of the shard of a key

-- The shard of the key, if any.
abbrev pub shard_of : (log : Journal) (key : ShardRef) → Option ShardState
shard_of log key = shard_at log key.stream key.shard

-- The records of the key's shard.
abbrev pub records_of : (log : Journal) (key : ShardRef) → List Logged
records_of log key = records log key.stream key.shard

-- The untrimmed records of the key's shard at or above the position.
abbrev pub left_of : (log : Journal) (c : ℕ) (key : ShardRef) (position : ℕ) → List Logged
left_of log c key position = left_from log c key.stream key.shard position

-- ---- The row of a key, before and after its drain

-- A drain can begin here: TRIM_HORIZON is the shard's start, `q` has a record at or above, SHARD_END is closed.
abbrev pub IsStart : (x : Option ShardState) (rs : List Logged) (floor : ℕ) (checkpoint : Checkpoint) → Type 0
IsStart x rs floor TrimHorizon = floor ≡ start_of x
IsStart x rs floor (At q) = HasFrom q rs
IsStart x rs floor ShardEnd = is_closed_at x ≡ true

-- The row is as it can be right after the history `h`, and its shard can be drained from its checkpoint.
pub record IsFresh (h : List Turn) (key : ShardRef) (r : Row) : Type 0 where
  pub few : r.counter ≤ length h
  pub start : IsStart (shard_of (journal h) key) (records_of (journal h) key) r.floor r.checkpoint

-- The checkpoint once the shard was read to its end: SHARD_END if closed, otherwise at its last record.
abbrev pub final_of : (log : Journal) (key : ShardRef) → Checkpoint
final_of log key = if is_closed_at (shard_of log key) then ShardEnd else last_checkpoint (records_of log key)

-- The row exists, with the final checkpoint of its shard as the history `h` left it.
abbrev pub IsDone : (h : List Turn) (key : ShardRef) (o : Option Row) → Type 0
IsDone h key o = option_map (λ r. r.checkpoint) o ≡ Some (final_of (journal h) key)
