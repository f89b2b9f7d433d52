-- What a drain relies on: facts about the history before it, and what turns on leases leave unchanged.
use Rattle.std.specs.Prelude.{ℕ, ◌≡◌, ◌≤◌, true, List, ◌++◌, length, Some}
use Rattle.std.specs.List.{AllByRecursion}
use Rattle.kds_base.specs.declared.lease_key.ShardRef.{ShardRef}
use Rattle.kds_defs.specs.declared.command.Turn.{Turn}
use Rattle.kds_defs.specs.declared.reply.Row.{Row}
use Rattle.kds_defs.specs.Histories.{clock, journal}
use Rattle.kds_defs.specs.Leases.{row, taken_count}
use Rattle.kds_defs.specs.Records.{next_number, records}
use Rattle.kds_defs.specs.Shards.{shards}
use Rattle.kds_defs.specs.StreamCommands.{last_number}
use Rattle.kds_defs.specs.Streams.{is_live, made_count}
use Rattle.kds_defs.specs.Tiled.{AreNumbered}
use Rattle.kcl_laws.specs.Recorded.{AreDrawn, IsSized}
use Rattle.kcl_drill_laws.specs.Leasing.{AreOnLeases, HasSameFloors, HasSameStreams}
use Rattle.kcl_drill_laws.specs.Parents.{AreFewRecords, AreParentsClosed}
use Rattle.kcl_drill_drain.specs.Draining.{IsFresh}

-- Facts about the history `h` before a drain; further turns on leases change no stream and no trim floor up to `c`.
pub record HasLaws (h : List Turn) (c : ℕ) : Type 0 where
  pub numbered : (s : ℕ) → AreNumbered 0 (shards (journal h) s)
  pub drawn : (s sh : ℕ) → AreDrawn (journal h) s sh
  pub fits : (s : ℕ) → next_number (journal h) s ≤ last_number
  pub sized : (s sh : ℕ) → AllByRecursion IsSized (records (journal h) s sh)
  pub fresh : (key : ShardRef) (r : Row) → row (journal h) key ≡ Some r → IsFresh h key r
  pub parents : (s : ℕ) → AreParentsClosed (shards (journal h) s)
  pub tenures : taken_count (journal h) ≤ length h
  pub few : AreFewRecords h
  pub live : (s : ℕ) → is_live (journal h) s ≡ true → (1 ≤ s) × (s ≤ made_count (journal h))
  pub streams : (more : List Turn) → AreOnLeases more → HasSameStreams (journal (more ++ h)) (journal h)
  pub floors : (more : List Turn) → AreOnLeases more → clock (more ++ h) ≤ c
      → HasSameFloors c (journal (more ++ h)) (journal h)
