-- A run as callers see it, the run of lines that it stands for, and what a line or a step changes.
use Rattle.std.specs.Prelude.{◌≡◌, ◌≤◌, ◌⊎◌, ℕ, nat_le, nat_lt, if◌then◌else◌, List, [], ◌∷◌, ◌++◌, length, slice_get}
use Rattle.std.specs.Prelude.{slice_set, Bool, true, false, Option, Some, None}
use Rattle.kds_defs.specs.declared.command.Turn.{Turn}
use Rattle.kds_defs.specs.declared.reply.Stored.{Stored}
use Rattle.kcl_proc.specs.declared.stock.Kind.{Kind}
use Rattle.kcl_proc.specs.declared.stock.Stock.{Stock}
use Rattle.kcl_proc.specs.Stocks.{StandsFor as Calls, asked_of}
use Rattle.kcl_worker.specs.Standing.{StandsFor, WorkerStanding}
use Rattle.kds_defs.specs.declared.limits.TheConstants.{MOST_ACTOR}
use Rattle.kcl_defs.specs.Workers.{Gave_command}
use Rattle.kcl_hand.specs.Joints.{worker_past}
use Rattle.kcl_script.specs.declared.line.Line.{Line}
use Rattle.kds_defs.specs.declared.command.Command.{Command}
use Rattle.kds_defs.specs.Histories.{answer}
use Rattle.kcl_sim.specs.Keeping.{AddsText, if_wanted}
use Rattle.kcl_sim.specs.Output.{Ran, command_output, output_of, part_of, raw_turn, with_line}
use Rattle.kcl_sim.specs.Workers.{Employed, all_called, answered, command_at, index_of}

-- A worker as callers see it, with ready-made processors.
abbrev pub Stepped : Type 0
Stepped = WorkerStanding Stock Kind

-- A run as callers see it; `cleared_at`: turns when the text was last emptied; `unfinished`: in a step or hand-off.
pub record SimValue : Type 0 where
  pub history : List Turn
  pub cleared_at : List Turn
  pub workers : List Stepped
  pub unfinished : Bool

-- The run with one more turn.
abbrev pub turned : (s : SimValue) (turn : Turn) → SimValue
turned s turn = record s { history = turn ∷ s.history }

-- No command of the worker waits for its answer.
abbrev pub IsFree : (w : Stepped) → Type 0
IsFree w = w.waiting ≡ None

-- The worker stands for its own events in the trace, with the same settings and asks.
pub record Employs (w : Stepped) (e : Employed) : Type 0 where
  pub made : w.made ≡ e.made
  pub kind : (batch : List Stored) → asked_of w.maker batch ≡ asked_of e.kind batch
  pub stands : StandsFor Calls w (worker_past e.past)

-- The lists have the same length, and each worker stands for the trace at its index.
abbrev pub EmployAll : (ws : List Stepped) (es : List Employed) → Type 0
EmployAll [] [] = Unit {0}
EmployAll (w ∷ ws) (e ∷ es) = Employs w e × EmployAll ws es
EmployAll [] (e ∷ es) = ⊥
EmployAll (w ∷ ws) [] = ⊥

-- The turns and workers are a run's; if a step or a hand-off is unfinished, nothing is claimed about the workers.
pub record RunsSo (s : SimValue) (ran : Ran) : Type 0 where
  pub history : s.history ≡ ran.history
  pub workers : s.unfinished ≡ false → EmployAll s.workers ran.workers

-- ---- What a line changes

-- The line was run whole, and its output was added if answers are wanted.
pub record GoesOn (wanted : Bool) (s : SimValue) (ran : Ran) (line : Line) (old new : List ℕ) : Type 0 where
  pub made : RunsSo s (with_line ran line)
  pub wrote : new ≡ old ++ if_wanted wanted (output_of ran line)
  pub going : s.unfinished ≡ false

-- The line's output was added if wanted, otherwise what its turns add to the text of the history.
abbrev pub IsTold : (is_wanted : Bool) (text : List Turn → List ℕ) (ran : Ran) (line : Line) (old new : List ℕ) →
    Type 0
IsTold true text ran line old new = new ≡ old ++ output_of ran line
IsTold false text ran line old new = AddsText (text ran.history) (text (with_line ran line).history) old new

-- The line was run, and its output, or what `text` gains by its turns, was added.
pub record Tells (wanted : Bool) (text : List Turn → List ℕ) (s : SimValue) (ran : Ran) (line : Line)
    (old new : List ℕ) : Type 0 where
  pub made : RunsSo s (with_line ran line)
  pub wrote : IsTold wanted text ran line old new

-- Memory ran out: the line was run whole or not at all.
abbrev pub MayHaveRun : (s : SimValue) (ran : Ran) (line : Line) → Type 0
MayHaveRun s ran line = RunsSo s ran ⊎ RunsSo s (with_line ran line)

-- Memory ran out in a hand-off line after at most three of its turns; no further line is run.
pub record HasRunPart (s : SimValue) (ran : Ran) (line : Line) : Type 0 where
  pub ran_of_it : ℕ
  pub few : ran_of_it ≤ 3
  pub history : part_of ran_of_it ran line ≡ Some s.history
  pub unfinished : s.unfinished ≡ true

-- Memory ran out: the line was run whole, not at all, or, if a hand-off, in part.
abbrev pub MayHaveBroken : (s : SimValue) (ran : Ran) (line : Line) → Type 0
MayHaveBroken s ran line = MayHaveRun s ran line ⊎ HasRunPart s ran line

-- The history grew by at most three turns.
pub record GrowsFew (old new : List Turn) : Type 0 where
  pub more : List Turn
  pub few : length more ≤ 3
  pub grows : new ≡ more ++ old

-- ---- What a step changes

-- The index of the actor's worker among `count` workers; None if the actor is no worker.
abbrev pub index_among : (actor count : ℕ) → Option ℕ
index_among actor count =
    if nat_le actor MOST_ACTOR then None else (if nat_lt (index_of actor) count then Some (index_of actor) else None)

-- `w` stands for the worker's own events in `e`'s trace and a command, given at `moment`, that waits for its answer.
pub record HasAsked (moment : ℕ) (w : Stepped) (e : Employed) : Type 0 where
  pub made : w.made ≡ e.made
  pub kind : (batch : List Stored) → asked_of w.maker batch ≡ asked_of e.kind batch
  pub stands : StandsFor Calls w (Gave_command moment ∷ worker_past e.past)

-- `w` took the answer to its waiting command `command`, sent after `h`, and became `v`.
abbrev pub TookAnswer : (moment actor : ℕ) (command : Command) (h : List Turn) (w v : Stepped) → Type 0
TookAnswer moment actor command h w v =
    IsFree v × ((e : Employed) → HasAsked moment w e
    → Employs v (answered moment (answer h (raw_turn moment actor command)) e))

-- Only the worker at the index changed, and `R` holds between it before and after.
pub record ChangedAt (index : ℕ) (R : Stepped → Stepped → Type 0) (old new : List Stepped) : Type 0 where
  pub was : Stepped
  pub stood : slice_get old index ≡ Some was
  pub is : Stepped
  pub stands : new ≡ slice_set old index is
  pub related : R was is

-- The history after a step: one more turn if the step gave a command.
abbrev pub history_after : (h : List Turn) (moment actor : ℕ) (command : Option Command) → List Turn
history_after h moment actor None = h
history_after h moment actor (Some command) = raw_turn moment actor command ∷ h

-- The worker's trace after a step: due calls, then the command, if any, and its answer.
abbrev pub employed_after : (h : List Turn) (moment actor : ℕ) (command : Option Command) (e : Employed) → Employed
employed_after h moment actor None e = all_called e
employed_after h moment actor (Some command) e =
    answered moment (answer h (raw_turn moment actor command)) (all_called e)

-- `w` became `v` by a step: due calls, then the next command `command`, if any, and its answer after `h`.
abbrev pub MadeStep : (moment actor : ℕ) (command : Option Command) (h : List Turn) (w v : Stepped) → Type 0
MadeStep moment actor command h w v =
    IsFree v × ((e : Employed) → Employs w e → (command_at moment (all_called e) ≡ command)
    × Employs v (employed_after h moment actor command e))

-- The worker at `index` made a step, and the step's output was added if answers are wanted.
pub record StepsAt (wanted : Bool) (moment actor index : ℕ) (old new : SimValue) (earlier after : List ℕ) : Type 0 where
  pub what : Option Command
  pub history : new.history ≡ history_after old.history moment actor what
  pub workers : ChangedAt index (MadeStep moment actor what old.history) old.workers new.workers
  pub wrote : after ≡ earlier ++ if_wanted wanted (command_output old.history moment actor what)

-- Memory ran out in a step after its command became a turn.
pub record TurnRan (moment actor index : ℕ) (old new : SimValue) : Type 0 where
  pub was : Stepped
  pub stood : slice_get old.workers index ≡ Some was
  pub what : Command
  pub next : (e : Employed) → Employs was e → command_at moment (all_called e) ≡ Some what
  pub history : new.history ≡ (raw_turn moment actor what ∷ old.history)
