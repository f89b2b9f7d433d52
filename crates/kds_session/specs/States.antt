-- What contracts see of a session.
use Rattle.std.specs.Prelude.{ℕ, List, Bool, true, false}
use Rattle.kds_session.specs.declared.state.Standing.{Standing}
use Rattle.kds_session.specs.declared.state.Standing.TheVariants.{Closed}
use Rattle.kds_session.specs.declared.state.Waiting.{Waiting}
use Rattle.kds_session.specs.declared.state.Waiting.TheVariants.{Nothing, Answer, LastAnswer}

-- A session: `output` isn't sent yet, and `left` further requests are allowed.
pub record SessionState : Type 0 where
  pub unread : List ℕ
  pub output : List ℕ
  pub left : ℕ
  pub standing : Standing
  pub waiting : Waiting

-- What a session waits for after a command; with `closes`, the connection closes after the answer.
abbrev pub waiting_for : (closes : Bool) → Waiting
waiting_for true = LastAnswer
waiting_for false = Answer

-- Whether the connection closes after the awaited answer.
abbrev pub is_last : (waiting : Waiting) → Bool
is_last Nothing = false
is_last Answer = false
is_last LastAnswer = true

-- The connection's state after a response, which closes it if `closes`.
abbrev pub standing_after : (closes : Bool) (standing : Standing) → Standing
standing_after true standing = Closed
standing_after false standing = standing
