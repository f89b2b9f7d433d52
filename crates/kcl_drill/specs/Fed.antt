-- A drill's turns, however its threads ran: the root makes the stream, the feeder puts the records.
use Rattle.std.specs.Prelude.{ℕ, ◌<◌, ◌≡◌, Bool, false, ◌==◌, List, [], ◌∷◌, ◌++◌, map, reverse}
use Rattle.std.specs.List.{AllByRecursion, filter}
use Rattle.kds_defs.specs.declared.command.Command.{Command}
use Rattle.kds_defs.specs.declared.command.Command.TheVariants as command
use Rattle.kds_defs.specs.declared.command.Turn.{Turn}
use Rattle.kds_defs.specs.Histories.{clock}
use Rattle.kds_defs.specs.Lawful.{IsHistory}
use Rattle.kcl_drill.specs.Apart.{LEAST_RETENTION, service_turns}
use Rattle.kds_defs.specs.Kinds.{is_service}
use Rattle.kcl_drill.specs.declared.limits.TheConstants.{FIRST_SHARDS}
use Rattle.kcl_drill.specs.Generated.{drill_name, first_open, from_record, generated}

-- Whether the turn is by the actor `n`.
abbrev pub is_by : (n : ℕ) (turn : Turn) → Bool
is_by n turn = turn.by == n

-- The turns of the actor `n` in the history `h`.
abbrev pub turns_by : (n : ℕ) (h : List Turn) → List Turn
turns_by n h = filter (is_by n) h

-- The commands of the turns, in the same order.
abbrev pub commands_in : (ts : List Turn) → List Command
commands_in ts = map (λ turn. turn.what) ts

-- The root's only turn is CreateStream; after it the feeder sends the rest in order; others' turns are on leases.
pub record IsFed (number records root feeder : ℕ) (h : List Turn) : Type 0 where
  pub newer : List Turn
  pub first : Turn
  pub older : List Turn
  pub around : h ≡ newer ++ first ∷ older
  pub of_root : first.by ≡ root
  pub made : commands_in (turns_by root h) ≡ command.Create drill_name FIRST_SHARDS ∷ []
  pub fed : commands_in (turns_by feeder h) ≡ reverse (from_record 0 records number first_open)
  pub after : turns_by feeder older ≡ []
  pub others : AllByRecursion (λ turn. (turn.by == root) ≡ false → (turn.by == feeder) ≡ false
      → is_service turn.what ≡ false) h

-- A lawful history below 24 hours whose commands for the stream service are the generator's, newest first.
pub record IsDrill (h : List Turn) (number records : ℕ) : Type 0 where
  pub lawful : IsHistory h
  pub below : clock h < LEAST_RETENTION
  pub asks : commands_in (service_turns h) ≡ reverse (generated number records)
