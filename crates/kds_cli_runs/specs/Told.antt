-- What a replay's status says of the schedule's bytes and of what was written.
use Rattle.std.specs.Prelude.{◌≡◌, ℕ, List, ◌++◌, Some}
use Rattle.std.specs.declared.option.Option.{Option}
use Rattle.std.specs.Io.KnownBytes.{Appends}
use Rattle.kds_ends.specs.declared.status.Status.{Status}
use Rattle.kds_ends.specs.declared.status.Status.TheVariants.{Done, BadLine, Read, Write, Memory, TooLong}
use Rattle.kds_ends.specs.Causes.{AppendsFront}
use Rattle.kcl_sim.specs.Schedule.{whole, too_long, bad_line, ending, text}

-- By a replay's status: all output was written; with Read, for the bytes read; with Write and Memory, a prefix.
abbrev pub TellsBy : (shown : List ℕ → List ℕ) (status : Status) (bytes : List ℕ) (left held now : Option (List ℕ)) →
    Type 0
TellsBy shown Done bytes left held now = (ending bytes ≡ whole) × Appends held now (shown bytes)
TellsBy shown (BadLine n) bytes left held now = (ending bytes ≡ bad_line n) × Appends held now (shown bytes)
TellsBy shown TooLong bytes left held now = (ending bytes ≡ too_long) × Appends held now (shown bytes)
TellsBy shown Read bytes left held now = (fed : List ℕ) × (rest : List ℕ) × (bytes ≡ fed ++ rest) × (left ≡ Some rest)
    × Appends held now (shown fed)
TellsBy shown Write bytes left held now = AppendsFront held now (shown bytes)
TellsBy shown Memory bytes left held now = AppendsFront held now (shown bytes)
TellsBy shown _ bytes left held now = ⊥

-- `TellsBy` for a replay that writes the answers.
abbrev pub Tells : (status : Status) (bytes : List ℕ) (left held now : Option (List ℕ)) → Type 0
Tells status bytes left held now = TellsBy text status bytes left held now

-- A replay may end with the status.
abbrev pub IsReplayStatus : (status : Status) → Type 0
IsReplayStatus Done = Unit {0}
IsReplayStatus (BadLine n) = Unit {0}
IsReplayStatus TooLong = Unit {0}
IsReplayStatus Read = Unit {0}
IsReplayStatus Write = Unit {0}
IsReplayStatus Memory = Unit {0}
IsReplayStatus _ = ⊥
