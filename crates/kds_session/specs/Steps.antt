-- The steps by which `next` reads messages until one asks for a command.
use Rattle.std.specs.Prelude.{◌≡◌, ◌≢◌, ℕ, ◌<◌, List, ◌++◌, drop, true, Option, IfSome}
use Rattle.kds_head.specs.declared.found.Head.{Head}
use Rattle.kds_head.specs.declared.found.Found.TheVariants.{Refused as RefusedHead, Whole as WholeHead}
use Rattle.kds_head.specs.Find.{IsFound}
use Rattle.kds_head.specs.Response.{is_refusal}
use Rattle.kds_json.specs.Asked.{IsRequest}
use Rattle.kds_session.specs.declared.front.Front.{Front}
use Rattle.kds_session.specs.declared.front.Front.TheVariants as front
use Rattle.kds_session.specs.declared.progress.Progress.{Progress}
use Rattle.kds_session.specs.declared.progress.Step.{Step}
use Rattle.kds_session.specs.declared.progress.Step.TheVariants as step
use Rattle.kds_session.specs.declared.state.Standing.TheVariants.{Live}
use Rattle.kds_session.specs.declared.state.Waiting.TheVariants.{Nothing}
use Rattle.kds_session.specs.Messages.{IsUnfinished, IsShort, IsWhole}
use Rattle.kds_session.specs.States.{SessionState}
use Rattle.kds_session.specs.Standing.{Traffic, given_one, StandsFor, IsQuiet, to_come}
use Rattle.kds_session.specs.Next.{IsNearer}

-- ---- What the unread bytes begin with

-- If a head is kept, the bytes begin with it.
abbrev pub IsKept : (bytes : List ℕ) (kept : Option Head) → Type 0
IsKept bytes kept = IfSome kept (λ head. IsFound bytes (WholeHead head))

-- What the bytes begin with; `Unfinished` may also stand for a whole head without its whole body.
abbrev pub IsFront : (bytes : List ℕ) (front : Front) → Type 0
IsFront bytes front.Unfinished = IsUnfinished bytes
IsFront bytes (front.Begun head) = IsShort bytes head
IsFront bytes (front.Refused status) = IsFound bytes (RefusedHead status)
IsFront bytes (front.Whole head) = IsWhole bytes head

-- A refused head has a status with which connections are refused.
abbrev pub IsKnown : (front : Front) → Type 0
IsKnown front.Unfinished = Unit {0}
IsKnown (front.Begun head) = Unit {0}
IsKnown (front.Refused status) = is_refusal status ≡ true
IsKnown (front.Whole head) = Unit {0}

-- ---- How `next` reads on

-- The session that a reading alone makes: what one call of `next` consumed of `bytes` and answered.
abbrev pub read_state : (bytes : List ℕ) (r : Progress) → SessionState
read_state bytes r = record {
  unread = drop r.read bytes;
  output = r.responses;
  left = r.left;
  standing = r.standing;
  waiting = r.waiting;
}

-- The session after it adopts the reading of its unread bytes.
abbrev pub with_progress : (s : SessionState) (r : Progress) → SessionState
with_progress s r = record {
  unread = drop r.read s.unread;
  output = s.output ++ r.responses;
  left = r.left;
  standing = r.standing;
  waiting = r.waiting;
}

-- The session is live and waits for no answer.
pub record IsFree (s : SessionState) : Type 0 where
  pub live : s.standing ≡ Live
  pub free : s.waiting ≡ Nothing

-- The session after a step: quiet after Stop, the same traffic after Answered, one more command after Command.
abbrev pub IsStepped : (step : Step) (new : SessionState) (past : Traffic) → Type 0
IsStepped step.Stop new past = StandsFor new past × IsQuiet new
IsStepped step.Answered new past = StandsFor new past
IsStepped (step.Command command) new past = StandsFor new (given_one command past) × (new.waiting ≢ Nothing)

-- Whatever `old` stands for, `new` is as it must be after the step.
abbrev pub Steps : (old new : SessionState) (step : Step) → Type 0
Steps old new step = (past : Traffic) → StandsFor old past → IsStepped step new past

-- What a step leads to: a quiet session, a free one with fewer requests, or one that awaits an answer.
abbrev pub IsPlainly : (step : Step) → (old new : SessionState) → Type 0
IsPlainly step.Stop old new = IsQuiet new × IsNearer old new
IsPlainly step.Answered old new = IsFree new × (new.left < old.left)
IsPlainly (step.Command command) old new = (new.waiting ≢ Nothing) × IsRequest command × (to_come new < to_come old)
