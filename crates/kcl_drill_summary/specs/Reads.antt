-- What a machine has answered since a history: turns that only read, all of one actor at one moment.
use Rattle.std.specs.Prelude.{ℕ, ◌≡◌, Bool, true, false, List, ◌++◌}
use Rattle.std.specs.List.{AllByRecursion}
use Rattle.kds_defs.specs.declared.command.Command.{Command}
use Rattle.kds_defs.specs.declared.command.Command.TheVariants as command
use Rattle.kds_defs.specs.declared.command.Turn.{Turn}

-- Whether the command only reads: a survey, GetShardIterator or GetRecords.
abbrev pub is_reading : (command : Command) → Bool
is_reading command.Survey = true
is_reading (command.GetIterator name sh start) = true
is_reading (command.Records iter limit) = true
is_reading _ = false

-- Each turn only reads, by the actor `actor` at the moment `moment`.
abbrev pub AreReads : (actor moment : ℕ) (more : List Turn) → Type 0
AreReads actor moment more =
    AllByRecursion (λ turn. (turn.by ≡ actor) × (turn.at ≡ moment) × (is_reading turn.what ≡ true)) more

-- The machine has answered `h` and then only turns that read.
pub record HasRead (stands : List Turn → Type 0) (actor moment : ℕ) (h : List Turn) : Type 0 where
  pub more : List Turn
  pub stands_now : stands (more ++ h)
  pub are : AreReads actor moment more
