-- Which traffic (bytes, commands and answers) a session stands for.
use Rattle.std.specs.Prelude.{◌≡◌, ◌≢◌, ℕ, ◌+◌, ◌<◌, List, [], ◌∷◌, ◌++◌, length, Bool, true, false, Result, Ok}
use Rattle.kds_defs.specs.declared.command.Command.{Command}
use Rattle.kds_defs.specs.declared.reply.Refusal.{Refusal}
use Rattle.kds_defs.specs.declared.reply.Reply.{Reply}
use Rattle.kds_session.specs.declared.limits.TheConstants.{REQUESTS}
use Rattle.kds_session.specs.declared.state.Standing.{Standing}
use Rattle.kds_session.specs.declared.state.Standing.TheVariants.{Live, Closed, Refused}
use Rattle.kds_session.specs.declared.state.Waiting.{Waiting}
use Rattle.kds_session.specs.declared.state.Waiting.TheVariants.{Nothing, Answer, LastAnswer}
use Rattle.kds_session.specs.Messages.{Message, IsUnfinished, Ending, boundary, inside, closed, refused, Falls}
use Rattle.kds_session.specs.Messages.{closes_after}
use Rattle.kds_session.specs.Text.{Answers, asked_by, commands, responses, end_text}
use Rattle.kds_session.specs.States.{SessionState}

-- A connection goes on, or it is over with an ending that no further bytes change.
pub data Stage : Type 0 where
  going : Stage
  over : Ending → Stage

-- The stage of a connection, which is already over while the last answer is awaited.
abbrev pub stage_of : (standing : Standing) (waiting : Waiting) → Stage
stage_of Live Nothing = going
stage_of Live Answer = going
stage_of Live LastAnswer = over closed
stage_of Closed waiting = over closed
stage_of (Refused status) waiting = over (refused status)

-- Only the last command of `done` has no answer yet; `close` says whether the connection closes after it.
pub record IsAwaited (close : Bool) (done : List Message) (answers : Answers) : Type 0 where
  pub before : List Message
  pub last : Message
  pub what : Command
  pub done_is : done ≡ before ++ last ∷ []
  pub asks : asked_by last ≡ Ok what
  pub told_before : length answers ≡ length (commands before)
  pub close_is : closes_after (length before + 1) last.head ≡ close

-- Each command of `done` has an answer, except the last while the session waits for it.
abbrev pub Awaits : (waiting : Waiting) (done : List Message) (answers : Answers) → Type 0
Awaits Nothing done answers = length answers ≡ length (commands done)
Awaits Answer done answers = IsAwaited false done answers
Awaits LastAnswer done answers = IsAwaited true done answers

-- After `done`, `left` further messages are allowed, and whatever follows, `unread` begins the next ones.
pub record GoesOn (fed : List ℕ) (done : List Message) (left : ℕ) (unread : List ℕ) : Type 0 where
  pub count : length done + left ≡ REQUESTS
  pub some_left : 0 < left
  pub onward : (more : List ℕ) (ms : List Message) (ending : Ending)
      → Falls (length done) (unread ++ more) ms ending → Falls 0 (fed ++ more) (done ++ ms) ending
  pub back : (more : List ℕ) (all : List Message) (ending : Ending) → Falls 0 (fed ++ more) all ending
      → (ms : List Message) × (all ≡ done ++ ms) × Falls (length done) (unread ++ more) ms ending

-- How `fed` falls into messages: `done` and then what `unread` begins, or, once it is over, `done` alone.
abbrev pub Leads : (going : Stage) (fed : List ℕ) (done : List Message) (left : ℕ) (unread : List ℕ) → Type 0
Leads going fed done left unread = GoesOn fed done left unread
Leads (over ending) fed done left unread = (more : List ℕ) → Falls 0 (fed ++ more) done ending

-- What is written at the end of a connection; nothing while it goes on.
abbrev pub stage_text : (going : Stage) → List ℕ
stage_text going = []
stage_text (over ending) = end_text ending

-- What passed through a session: bytes fed, commands returned, answers passed to it, and output sent.
pub record Traffic : Type 0 where
  pub fed : List ℕ
  pub given : List Command
  pub told : Answers
  pub sent : List ℕ

-- The traffic with these parts.
abbrev pub traffic : (fed : List ℕ) (coming : List Command) (answers : Answers) (sent : List ℕ) → Traffic
traffic fed coming answers sent = record { fed = fed; given = coming; told = answers; sent = sent }

-- The traffic of a new session.
abbrev pub no_traffic : Traffic
no_traffic = traffic [] [] [] []

-- The session returned the commands of the messages read, and wrote their responses and, once over, the ending's.
pub record StandsFor (s : SessionState) (past : Traffic) : Type 0 where
  pub done : List Message
  pub given_is : past.given ≡ commands done
  pub awaited : Awaits s.waiting done past.told
  pub live : s.waiting ≢ Nothing → s.standing ≡ Live
  pub leads : Leads (stage_of s.standing s.waiting) past.fed done s.left s.unread
  pub written : past.sent ++ s.output ≡ responses 0 done past.told ++ stage_text (stage_of s.standing s.waiting)

-- The traffic after more bytes were fed.
abbrev pub fed_more : (bytes : List ℕ) (past : Traffic) → Traffic
fed_more bytes past = record past { fed = past.fed ++ bytes }

-- The traffic after one more command was given.
abbrev pub given_one : (command : Command) (past : Traffic) → Traffic
given_one command past = record past { given = past.given ++ command ∷ [] }

-- The traffic after one more answer was told.
abbrev pub told_one : (answer : Result Reply Refusal) (past : Traffic) → Traffic
told_one answer past = record past { told = past.told ++ answer ∷ [] }

-- The traffic after more bytes were sent.
abbrev pub sent_more : (bytes : List ℕ) (past : Traffic) → Traffic
sent_more bytes past = record past { sent = past.sent ++ bytes }

-- Whatever traffic the session stood for, it stands for it after the change.
abbrev pub CarriesOn : (old new : SessionState) (change : Traffic → Traffic) → Type 0
CarriesOn old new change = (past : Traffic) → StandsFor old past → StandsFor new (change past)

-- The session waits for no answer; if it is live, its unread bytes are an unfinished message.
abbrev pub IsQuiet : (s : SessionState) → Type 0
IsQuiet s = (s.standing ≡ Live → IsUnfinished s.unread) × (s.waiting ≡ Nothing)

-- No message is unfinished: nothing is unread, or the connection is over.
abbrev pub HasNoneLeft : (going : Stage) (unread : List ℕ) → Type 0
HasNoneLeft going unread = unread ≡ []
HasNoneLeft (over ending) unread = Unit {0}

-- The session is between two messages, or its connection is over.
abbrev pub IsAtBoundary : (s : SessionState) → Type 0
IsAtBoundary s = HasNoneLeft (stage_of s.standing s.waiting) s.unread

-- How all bytes end, if no whole message is unread: by the unread bytes, or by the stage once it is over.
abbrev pub end_in : (going : Stage) (unread : List ℕ) → Ending
end_in going [] = boundary
end_in going (b ∷ bs) = inside
end_in (over ending) unread = ending

-- How all bytes fed to the session end, if no whole message is unread.
abbrev pub end_of : (s : SessionState) → Ending
end_of s = end_in (stage_of s.standing s.waiting) s.unread

-- How much may still come: `left` requests and the connection's end, or nothing once it is over.
abbrev pub still : (going : Stage) (left : ℕ) → ℕ
still going left = left + 1
still (over ending) left = 0

-- How many requests may still come, plus one for the end.
abbrev pub to_come : (s : SessionState) → ℕ
to_come s = still (stage_of s.standing s.waiting) s.left
