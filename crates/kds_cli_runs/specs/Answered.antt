-- Which lines of a schedule a replay ran, and how much of their output it wrote.
use Rattle.std.specs.Prelude.{◌≡◌, ◌⊎◌, ℕ, List, [], ◌∷◌, ◌++◌}
use Rattle.std.specs.declared.option.Option.{Option}
use Rattle.std.specs.Io.KnownBytes.{Appends}
use Rattle.kds_defs.specs.Histories.{journal, clock}
use Rattle.kds_defs.specs.Safe.{IsSafe}
use Rattle.kds_ends.specs.declared.status.Status.{Status}
use Rattle.kds_ends.specs.declared.status.Status.TheVariants.{Done, BadLine, Read, Write, Memory, TooLong}
use Rattle.kds_lines.specs.declared.outcome.Outcome.{Outcome}
use Rattle.kds_lines.specs.declared.outcome.Outcome.TheVariants as outcome
use Rattle.kcl_script.specs.declared.line.Line.{Line}
use Rattle.kcl_sim.specs.Output.{fresh, with_schedule, outputs}
use Rattle.kcl_sim.specs.Schedule.{history, judged}
use Rattle.kcl_sim.specs.Serving.{AreAllServed, AreHandedOff, AreNeverReadAgain}
use Rattle.kcl_sim.specs.Standing.{HasRunPart, RunsSo, SimValue}

-- The replay's status by its reading's outcome; a last line without line feed is a bad line.
abbrev pub status_of : (outcome : Outcome) → Status
status_of outcome.Whole = Done
status_of (outcome.Unfinished n) = BadLine n
status_of (outcome.Stopped n) = BadLine n
status_of outcome.TooLong = TooLong
status_of outcome.Read = Read
status_of outcome.Write = Write
status_of outcome.Memory = Memory

-- Lines and output may be left with Write and Memory, lines alone with Read, and otherwise nothing.
abbrev pub Remains : (s : Status) (later : List Line) (back : List ℕ) → Type 0
Remains Write later back = Unit {0}
Remains Memory later back = Unit {0}
Remains Read later back = back ≡ []
Remains s later back = (later ≡ []) × (back ≡ [])

-- The lines were run; with Memory, the next line's first turns may have been made too.
abbrev pub HasMade : (status : Status) (lines later : List Line) (s : SimValue) → Type 0
HasMade Memory lines later s =
    RunsSo s (with_schedule fresh lines)
    ⊎ ((line : Line) × (rest : List Line) × (later ≡ line ∷ rest) × HasRunPart s (with_schedule fresh lines) line)
HasMade _ lines later s = RunsSo s (with_schedule fresh lines)

-- The schedule's first lines, up to a bad or too long one, were run, and a prefix of their output was written.
pub record RanBy (output : List Line → List ℕ) (status : Status) (bytes : List ℕ) (old new : Option (List ℕ))
    (s : SimValue) : Type 0 where
  pub lines : List Line
  pub later : List Line
  pub parts : (judged bytes).lines ≡ lines ++ later
  pub made : HasMade status lines later s
  pub front : List ℕ
  pub back : List ℕ
  pub output_is : output lines ≡ front ++ back
  pub written : Appends old new front
  pub remains : Remains status later back

-- `RanBy` for a replay that writes the answers.
abbrev pub RanSo : (status : Status) (bytes : List ℕ) (old new : Option (List ℕ)) (s : SimValue) → Type 0
RanSo status bytes old new s = RanBy (outputs fresh) status bytes old new s

-- Once a hand-off freed its row, its batches are given and marked, and a tenure begun next reads none of them.
abbrev pub IsHandedOn : (bytes : List ℕ) (lines : List Line) → Type 0
IsHandedOn bytes lines = AreHandedOff (with_schedule fresh lines)
    × AreNeverReadAgain (history bytes) (with_schedule fresh lines)

-- `IsHandedOn` holds after each line of the schedule.
abbrev pub AreHandedOn : (bytes : List ℕ) → Type 0
AreHandedOn bytes = (lines later : List Line) → (judged bytes).lines ≡ lines ++ later → IsHandedOn bytes lines

-- The run is as in `RanBy`, its state is safe, its processors were served, and its hand-offs hold.
pub record RanSafely (output : List Line → List ℕ) (status : Status) (bytes : List ℕ) (old new : Option (List ℕ)) :
    Type 0 where
  pub sim : SimValue
  pub so : RanBy output status bytes old new sim
  pub safe : IsSafe (journal sim.history) (clock sim.history)
  pub served : AreAllServed (with_schedule fresh so.lines)
  pub handed : IsHandedOn bytes so.lines
