-- How far a drain has come: first each listed key gets a row, and then the rows are drained in order.
use Rattle.std.specs.Prelude.{ℕ, ◌≡◌, ◌+◌, ◌<◌, ◌≤◌, max, List, length, slice_get, Some}
use Rattle.kds_base.specs.declared.lease_key.ShardRef.{ShardRef}
use Rattle.kds_defs.specs.declared.command.Turn.{Turn}
use Rattle.kds_defs.specs.declared.reply.Row.{Row}
use Rattle.kds_defs.specs.Histories.{clock, journal}
use Rattle.kds_defs.specs.Journal.{Journal}
use Rattle.kds_defs.specs.Leases.{row, taken_count}
use Rattle.kds_defs.specs.Listings.{listed_in}
use Rattle.kds_defs.specs.Streams.{live_streams}
use Rattle.kcl_drill_summary.specs.Counting.{row_among}
use Rattle.kcl_drill_drain.specs.Draining.{IsDone, IsFresh}

-- The keys of the shards listed at the greater of the history's clock and `moment`, in their order.
abbrev pub listed_keys : (h : List Turn) (moment : ℕ) → List ShardRef
listed_keys h moment = listed_in (journal h) (max (clock h) moment) (live_streams (journal h))

-- The key has a row in the journal.
abbrev pub HasRow : (log : Journal) (key : ShardRef) → Type 0
HasRow log key = (r : Row) × (row log key ≡ Some r)

-- The first `i` keys and the keys of the survey's rows (`among`) have rows, as before a drain (`IsFresh`).
pub record AreMade (h : List Turn) (keys : List ShardRef) (among : List Row) (i : ℕ) (log : Journal) : Type 0 where
  pub fresh : (key : ShardRef) (r : Row) → row log key ≡ Some r → IsFresh h key r
  pub kept : (key : ShardRef) (r : Row) → row_among among key ≡ Some r → HasRow log key
  pub made : (j : ℕ) (key : ShardRef) → j < i → slice_get keys j ≡ Some key → HasRow log key
  pub few : taken_count log ≤ length h

-- The key's row is as the survey showed it (`among`), and can be drained (`IsFresh`).
pub record Waits (h : List Turn) (among : List Row) (log : Journal) (key : ShardRef) : Type 0 where
  pub now : Row
  pub there : row log key ≡ Some now
  pub seen : row_among among key ≡ Some now
  pub fresh : IsFresh h key now

-- The rows of the first `i` keys are drained, with one tenure each at most, and the others wait.
pub record AreDrainedTo (h : List Turn) (keys : List ShardRef) (among : List Row) (i : ℕ) (log : Journal) : Type 0 where
  pub done : (j : ℕ) (key : ShardRef) → j < i → slice_get keys j ≡ Some key → IsDone h key (row log key)
  pub waits : (j : ℕ) (key : ShardRef) → i ≤ j → slice_get keys j ≡ Some key → Waits h among log key
  pub few : taken_count log ≤ length h + i
