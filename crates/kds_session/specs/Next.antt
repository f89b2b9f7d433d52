-- What `next` gives, what the session stands for afterwards, and how many bytes it may be fed.
use Rattle.std.specs.Prelude.{◌≡◌, ◌≢◌, ◌⊎◌, ◌<◌, ◌≤◌, ◌+◌, ◌-◌, ℕ, List, length, slice_get, Option, Some, None}
use Rattle.kds_defs.specs.declared.command.Command.{Command}
use Rattle.kds_head.specs.declared.numbers.TheConstants.{HEAD_BYTES, BODY_BYTES}
use Rattle.kds_session.specs.declared.limits.TheConstants.{PIECE_BYTES, UNREAD_BYTES}
use Rattle.kds_session.specs.declared.state.Standing.TheVariants.{Live}
use Rattle.kds_session.specs.declared.state.Waiting.{Waiting}
use Rattle.kds_session.specs.declared.state.Waiting.TheVariants.{Nothing}
use Rattle.kds_session.specs.Text.{commands}
use Rattle.kds_session.specs.States.{SessionState}
use Rattle.kds_session.specs.Messages.{Message, Ending, Falls}
use Rattle.kds_session.specs.Standing.{Traffic, given_one, StandsFor, IsQuiet, to_come}

-- After `next`, the session waits for the answer to the command given, or it is quiet.
abbrev pub IsNext : (command : Option Command) (new : SessionState) (past : Traffic) → Type 0
IsNext None new past = StandsFor new past × IsQuiet new
IsNext (Some command) new past = StandsFor new (given_one command past) × (new.waiting ≢ Nothing)

-- Whatever traffic the session stood for, it is as it must be after `next`.
abbrev pub GivesNext : (old new : SessionState) (next : Option Command) → Type 0
GivesNext old new next = (past : Traffic) → StandsFor old past → IsNext next new past

-- Of the commands in all bytes fed, `next` returns the first not yet returned, or None if there is no further one.
abbrev pub FollowsThose : (old : SessionState) (next : Option Command) → Type 0
FollowsThose old next = (past : Traffic) → StandsFor old past → (ms : List Message) (ending : Ending)
    → Falls 0 past.fed ms ending
    → next ≡ slice_get (commands ms) (length past.given)

-- The session waits for an answer exactly if there is a command.
abbrev pub IsWaiting : (new : Waiting) (command : Option Command) → Type 0
IsWaiting new None = new ≡ Nothing
IsWaiting new (Some command) = new ≢ Nothing

-- Less may still come in `new` than in `old`, or the same and nothing was read.
abbrev pub IsNearer : (old new : SessionState) → Type 0
IsNearer old new = (to_come new < to_come old) ⊎ ((new.unread ≡ old.unread) × (to_come new ≡ to_come old))

-- After a command, less may still come (`to_come`); without one, less, or as much if nothing was read.
abbrev pub IsFewer : (command : Option Command) (old new : SessionState) → Type 0
IsFewer None old new = IsNearer old new
IsFewer (Some command) old new = to_come new < to_come old

-- A live session has fewer unread bytes than the greatest head and body together.
abbrev pub IsShort : (s : SessionState) → Type 0
IsShort s = s.standing ≡ Live → length s.unread < HEAD_BYTES + BODY_BYTES

-- Without a command, the session is quiet and has few unread bytes.
abbrev pub IsReadOut : (command : Option Command) (new : SessionState) → Type 0
IsReadOut None new = IsQuiet new × IsShort new
IsReadOut (Some command) new = Unit {0}

-- The number of bytes that the session may be fed now.
abbrev pub feed_limit_of : (s : SessionState) → ℕ
feed_limit_of s = UNREAD_BYTES - length s.unread

-- Without a command, a live session may be fed a whole piece.
abbrev pub CanBeFed : (command : Option Command) (new : SessionState) → Type 0
CanBeFed None new = new.standing ≡ Live → PIECE_BYTES ≤ feed_limit_of new
CanBeFed (Some command) new = Unit {0}
