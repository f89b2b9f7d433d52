-- What serving one connection on a machine means for the history, the clock and the output.
use Rattle.std.specs.Prelude.{◌≡◌, ◌⊎◌, ℕ, List, [], ◌∷◌, IfSome}
use Rattle.std.specs.declared.option.Option.{Option}
use Rattle.kds_defs.specs.declared.command.Command.{Command}
use Rattle.kds_defs.specs.declared.command.Turn.{Turn}
use Rattle.kds_ends.specs.Moments.{Gives}
use Rattle.kds_ends.specs.declared.status.Status.{Status}
use Rattle.kds_ends.specs.declared.status.Status.TheVariants.{Memory}
use Rattle.kds_session.specs.Text.{Answers}
use Rattle.kds_server.specs.Around.{Around}
use Rattle.kds_server.specs.Turns.{turns_at, followed, TurnsMade}
use Rattle.kds_server.specs.Texts.{Tells}

-- The clock gave no moment; with Memory, perhaps one, at which memory ran out in a turn.
abbrev pub AsksAtMostOnce : (status : Status) (old now : Option (List ℕ)) → Type 0
AsksAtMostOnce Memory old now = (now ≡ old) ⊎ ((moment : ℕ) × Gives old (moment ∷ []) now)
AsksAtMostOnce _ old now = now ≡ old

-- The connection's commands became turns after `h`, and the status is right for its bytes.
pub record Served (h : List Turn) (input clock out : Around (Option (List ℕ))) (status : Status) : Type 0 where
  pub given : List Command
  pub told : Answers
  pub between : Option (List ℕ)
  pub made : TurnsMade h clock.before between given told
  pub asked : AsksAtMostOnce status between clock.after
  pub tells : IfSome input.before (λ bytes. Tells status bytes input.after given told out.before out.after)

-- The turns that the connection made, in order, at the clock's moments.
abbrev pub turns_of : {h : List Turn} {input clock out : Around (Option (List ℕ))} {status : Status}
    → (s : Served h input clock out status) → List Turn
turns_of s = turns_at s.made.moments s.given

-- For each history of the machine, the connection made turns after it, for which the machine now stands.
abbrev pub ServedAfter : {M : Type 0} → (stands_for : M → List Turn → Type 0) (machine : Around M) → (input clock out
    : Around (Option (List ℕ))) (status : Status) → Type 0
ServedAfter stands_for machine input clock out status =
    (h : List Turn) → stands_for machine.before h → (served : Served h input clock out status)
    × stands_for machine.after (followed h (turns_of served))
