-- What a machine has answered since a history `h`: only turns on leases, all of one actor at one moment.
use Rattle.std.specs.Prelude.{ℕ, ◌≡◌, max, List, ◌∷◌, ◌++◌, Result, IfOk}
use Rattle.kds_defs.specs.declared.command.Command.{Command}
use Rattle.kds_defs.specs.declared.command.Turn.{Turn}
use Rattle.kds_defs.specs.declared.reply.Refusal.{Refusal}
use Rattle.kds_defs.specs.declared.reply.Reply.{Reply}
use Rattle.kds_defs.specs.Histories.{answer, clock, journal}
use Rattle.kds_defs.specs.Journal.{Journal}
use Rattle.kcl_drill.specs.Summed.{AreDrained}
use Rattle.kcl_drill_laws.specs.Closed.{AreLeased}

-- The machine has answered a history and then only lawful turns on leases, by one actor at one moment.
pub record HasLeased (stands : List Turn → Type 0) (actor moment : ℕ) (h : List Turn) : Type 0 where
  pub more : List Turn
  pub stands_now : stands (more ++ h)
  pub are : AreLeased actor moment more

-- If only turns on leases came since a history `h` before the call, this is still so after it.
abbrev pub KeepsLeased : (stood stands : List Turn → Type 0) (actor moment : ℕ) → Type 0
KeepsLeased stood stands actor moment = (h : List Turn) → HasLeased stood actor moment h
    → HasLeased stands actor moment h

-- Turns on leases since `h` led to a journal with `P`, at the later of its clock and `moment`.
pub record Leads (stands : List Turn → Type 0) (actor moment : ℕ) (h : List Turn) (P : Journal → Type 0) : Type 0 where
  pub more : List Turn
  pub stands_now : stands (more ++ h)
  pub are : AreLeased actor moment more
  pub late : clock (more ++ h) ≡ max (clock h) moment
  pub so : P (journal (more ++ h))

-- Turns on leases since `h` led to a journal in which each listed shard is drained.
pub record HasDrained (stands : List Turn → Type 0) (actor moment : ℕ) (h : List Turn) : Type 0 where
  pub more : List Turn
  pub stands_now : stands (more ++ h)
  pub are : AreLeased actor moment more
  pub drained : AreDrained (journal (more ++ h)) (clock (more ++ h))

-- The command `command` as a turn of the actor `actor` at the moment `moment`.
abbrev pub turn_of : (actor moment : ℕ) (command : Command) → Turn
turn_of actor moment command = record { by = actor; at = moment; what = command }

-- The call's result, if Ok, has the turn's answer, and the machine now stands for the history with the turn.
abbrev pub Answers : {E : Type 0}
    → (stands stands' : List Turn → Type 0) (turn : Turn) (result : Result (Result Reply Refusal) E) → Type 0
Answers stands stands' turn result = (now : List Turn) → stands now
    → IfOk result (λ a. (a ≡ answer now turn) × stands' (turn ∷ now))
