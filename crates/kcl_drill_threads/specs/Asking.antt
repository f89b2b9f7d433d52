-- A pass makes the commands of a drill's generator as its turns, all at the moment 0.
use Rattle.std.specs.Prelude.{◌≡◌, ◌⊎◌, ◌↔◌, ℕ, ◌+◌, ◌^◌, Bool, true, false, List, [], ◌∷◌, length, map, reverse, take}
use Rattle.std.specs.Prelude.{Result}
use Rattle.kds_defs.specs.declared.command.Command.{Command}
use Rattle.kds_defs.specs.declared.command.Turn.{Turn}
use Rattle.kds_defs.specs.declared.reply.Refusal.{Refusal}
use Rattle.kds_defs.specs.declared.reply.Reply.{Reply}
use Rattle.kds_turn.specs.declared.pass.TurnErr.{TurnErr}
use Rattle.kds_turn.specs.declared.pass.TurnErr.TheVariants as failed
use Rattle.kds_turn.specs.Known.{Continues}
use Rattle.kds_turn.specs.Passes.{PassValue, IsAnswered}

-- The same pass later: it has seen the same turns and perhaps newer ones.
pub record IsKept (old new : PassValue) : Type 0 where
  pub hall : new.hall ≡ old.hall
  pub by : new.by ≡ old.by
  pub joined : new.joined ≡ old.joined
  pub seen : Continues new.seen old.seen

-- The command `command` as a turn of the actor `actor` at the moment 0.
abbrev pub turn_of : (actor : ℕ) (command : Command) → Turn
turn_of actor command = record { by = actor; at = 0; what = command }

-- The commands as turns of the actor `actor` at the moment 0, newest first.
abbrev pub turns_of : (actor : ℕ) (commands : List Command) → List Turn
turns_of actor commands = map (turn_of actor) (reverse commands)

-- The pass's own turns are exactly these commands in order.
abbrev pub HasAsked : (commands : List Command) (p : PassValue) → Type 0
HasAsked commands p = p.own ≡ turns_of p.by commands

-- The pass's own turns are a prefix of these commands.
abbrev pub HasBegun : (commands : List Command) (p : PassValue) → Type 0
HasBegun commands p = (n : ℕ) × HasAsked (take n commands) p

-- With true, the first of `coming` became a turn and was answered; with false, nothing was to come or changed.
abbrev pub Asks : (is_asked : Bool) (coming left : List Command) (old new : PassValue) → Type 0
Asks true coming left old new =
    (command : Command) × (coming ≡ command ∷ left) × (a : Result Reply Refusal)
    × IsAnswered (turn_of old.by command) a old new
Asks false coming left old new = (coming ≡ []) × (left ≡ []) × (new ≡ old)

-- The turn's error is Spent exactly if the pass has seen 2^64 - 1 turns, the most that can be counted.
abbrev pub IsTurnErr : (p : PassValue) (e : TurnErr) → Type 0
IsTurnErr p e = (e ≡ failed.Spent) ↔ (length p.seen + 1 ≡ 2 ^ 64)

-- The generator ran out of memory, with the pass unchanged, or the turn failed (`IsTurnErr`).
abbrev pub IsAskErr : (old new : PassValue) (e : TurnErr) → Type 0
IsAskErr old new e = ((e ≡ failed.Memory) × (new ≡ old)) ⊎ IsTurnErr new e
