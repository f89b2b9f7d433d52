-- The commands Renew, Free, OpenShard and Mark, which a tenure may make only while it holds its row.
use Rattle.std.specs.Prelude.{ℕ, ◌≡◌, Option, Some, None, Result, Err}
use Rattle.kds_defs.specs.declared.command.Command.{Command}
use Rattle.kds_defs.specs.declared.command.Command.TheVariants as command
use Rattle.kds_defs.specs.declared.command.Turn.{Turn}
use Rattle.kds_defs.specs.declared.reply.Refusal.{Refusal}
use Rattle.kds_defs.specs.declared.reply.Refusal.TheVariants as refusal
use Rattle.kds_defs.specs.declared.reply.Reply.{Reply}
use Rattle.kds_defs.specs.Journal.{Journal}
use Rattle.kds_defs.specs.Leases.{TenureState, row, tenure, tenure_in}

-- The tenure that a Renew, Free, OpenShard or Mark names, and `None` for other commands.
abbrev pub acting : (command : Command) → Option ℕ
acting (command.Renew t counter) = Some t
acting (command.Free t counter) = Some t
acting (command.OpenShard t) = Some t
acting (command.Mark t counter target) = Some t
acting _ = None

-- The turn is a Renew, Free, OpenShard or Mark of a tenure that exists.
pub record ActsBy (log : Journal) (turn : Turn) (t : ℕ) (T : TenureState) : Type 0 where
  pub asks : acting turn.what ≡ Some t
  pub begun : tenure log t ≡ Some T

-- The tenure that holds the row of this tenure's key, or 0 if none does or there is no row.
abbrev pub row_tenure : (log : Journal) (tenure_state : TenureState) → ℕ
row_tenure log T = tenure_in (row log T.key)

-- The tenure has lost its row: the row doesn't name it, or is gone.
abbrev pub HasLost : (log : Journal) (tenure_state : TenureState) (t : ℕ) → Type 0
HasLost log T t = row_tenure log T ≡ t → ⊥

-- The refusal `Lost`, with the tenure that holds the row or 0.
abbrev pub lost_answer : (log : Journal) (tenure_state : TenureState) → Result Reply Refusal
lost_answer log T = Err (refusal.Lost (row_tenure log T))
