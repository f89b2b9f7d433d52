-- A hand-off in the middle of its run, and what one command or the whole run changes.
use Rattle.std.specs.Prelude.{◌≡◌, ◌≤◌, ℕ, Bool, List, ◌∷◌, ◌++◌, Some}
use Rattle.kds_defs.specs.declared.command.Command.{Command}
use Rattle.kds_defs.specs.declared.command.Turn.{Turn}
use Rattle.kds_defs.specs.Histories.{answer}
use Rattle.kcl_defs.specs.Lives.{Deal}
use Rattle.kcl_hand.specs.Handing.{hand_command}
use Rattle.kcl_hand.specs.Joints.{HandOff, state_of}
use Rattle.kcl_hand.specs.Runs.{answered_by, called_up, hand_run, run_hand}
use Rattle.kcl_hand.specs.Standing.{HandStanding, IsLeaving, StandsFor}
use Rattle.kcl_proc.specs.declared.stock.Stock.{Stock}
use Rattle.kcl_proc.specs.Stocks.{StandsFor as Calls}
use Rattle.kcl_sim.specs.Keeping.{if_wanted}
use Rattle.kcl_sim.specs.Output.{deal_text, raw_turn, run_text}
use Rattle.kcl_sim.specs.Standing.{SimValue}

-- A hand-off as callers see it, with a ready-made processor.
abbrev pub Handing : Type 0
Handing = HandStanding Stock

-- `v` stands for the trace `x`: same lease, settings and events; its stage is one after the loss of a lease.
pub record IsHandOf (v : Handing) (x : HandOff) : Type 0 where
  pub held : v.held ≡ x.held
  pub made : v.consumer.made ≡ x.made
  pub stands : StandsFor Calls v x.before x.since
  pub leaving : IsLeaving v.consumer.stage

-- The command sent right after the history, with its answer.
abbrev pub deal_at : (moment actor : ℕ) (h : List Turn) (command : Command) → Deal
deal_at moment actor h command = record { what = command; answer = answer h (raw_turn moment actor command) }

-- `command` comes next for every trace that `v` stands for.
abbrev pub ComesNext : (v : Handing) (command : Command) → Type 0
ComesNext v command = (x : HandOff) → IsHandOf v x → hand_command x.held x.made (state_of x) ≡ Some command

-- One round: `v`'s next command became a turn, was answered, and the due call, if any, was made.
pub record MadeRound (wanted : Bool) (moment actor : ℕ) (old new : SimValue) (v w : Handing) (earlier after : List ℕ) :
    Type 0 where
  pub what : Command
  pub next : ComesNext v what
  pub history : new.history ≡ raw_turn moment actor what ∷ old.history
  pub hand : (x : HandOff) → IsHandOf v x → IsHandOf w (called_up (answered_by moment actor old.history x what))
  pub wrote : after ≡ earlier ++ if_wanted wanted (deal_text (deal_at moment actor old.history what))

-- Memory ran out after `v`'s next command became a turn; only the histories are compared.
pub record RanCommand (moment actor : ℕ) (old new : SimValue) (v : Handing) : Type 0 where
  pub what : Command
  pub next : ComesNext v what
  pub history : new.history ≡ raw_turn moment actor what ∷ old.history

-- The hand-off ran to its end, and its line of output was added if answers are wanted.
pub record RanToEnd (wanted : Bool) (moment actor : ℕ) (old new : SimValue) (v : Handing) (earlier after : List ℕ) :
    Type 0 where
  pub history : (x : HandOff) → IsHandOf v x → new.history ≡ (hand_run moment actor old.history x).history
  pub wrote : (x : HandOff) → IsHandOf v x
      → after ≡ earlier ++ if_wanted wanted (run_text (hand_run moment actor old.history x))

-- Memory ran out within the hand-off, after its first commands became turns: three at most, perhaps none.
pub record RanFirst (moment actor : ℕ) (old new : SimValue) (v : Handing) : Type 0 where
  pub ran_of_it : ℕ
  pub few : ran_of_it ≤ 3
  pub history : (x : HandOff) → IsHandOf v x → new.history ≡ (run_hand ran_of_it moment actor old.history x).history
