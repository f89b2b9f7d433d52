-- How far a connection has come: what was read, which commands were taken, and what was written.
use Rattle.std.specs.Prelude.{ℕ, ◌≡◌, ◌+◌, ◌-◌, ◌*◌, ◌<◌, ◌≤◌, Bool, true, false, List, [], ◌∷◌, ◌++◌, length}
use Rattle.std.specs.Prelude.{IfErr, IfOk, IfSome, IsErrOf, OnOk, Result}
use Rattle.std.specs.declared.option.Option.{Option}
use Rattle.std.specs.Io.KnownBytes.{Appends, Consumes, IsAtEnd, Keeps}
use Rattle.kds_defs.specs.declared.command.Command.{Command}
use Rattle.kds_ends.specs.Causes.{Rose}
use Rattle.kds_ends.specs.Moments.{Gives}
use Rattle.kds_ends.specs.declared.status.Status.{Status}
use Rattle.kds_ends.specs.declared.status.Status.TheVariants.{Read, Memory}
use Rattle.kds_head.specs.declared.numbers.TheConstants.{HEAD_BYTES, BODY_BYTES}
use Rattle.kds_session.specs.Text.{Answers}
use Rattle.kds_session.specs.States.{SessionState}
use Rattle.kds_session.specs.declared.state.Standing.TheVariants.{Live}
use Rattle.kds_session.specs.Standing.{traffic, StandsFor, to_come}
use Rattle.kds_server.specs.Around.{Around, around}
use Rattle.kds_server.specs.Serving.{AsksAtMostOnce}
use Rattle.kds_server.specs.Texts.{Tells}

-- The session stands for what was read from the source and what was written to the sink.
pub record Reads (all left : Option (List ℕ)) (session : SessionState) (start held : Option (List ℕ))
    (commands : List Command) (answers : Answers) : Type 0 where
  pub fed : List ℕ
  pub sent : List ℕ
  pub taken : Consumes all left fed
  pub stands : StandsFor session (traffic fed commands answers sent)
  pub written : Appends start held sent

-- The clock gave some moments, of which `makes` is true.
pub record Taken (makes : List ℕ → Type 0) (old now : Option (List ℕ)) : Type 0 where
  pub moments : List ℕ
  pub gives : Gives old moments now
  pub made : makes moments

-- The connection so far: commands were taken at the clock's moments, and the session stands for its traffic.
pub record Running (makes : List ℕ → List Command → Answers → Type 0) (session : SessionState)
    (input clock out : Around (Option (List ℕ))) : Type 0 where
  pub given : List Command
  pub told : Answers
  pub reads : Reads input.before input.after session out.before out.after given told
  pub taken : Taken (λ moments. makes moments given told) clock.before clock.after

-- The connection ended: commands were taken, and the status is right for its bytes.
pub record Ended (makes : List ℕ → List Command → Answers → Type 0) (input clock out : Around (Option (List ℕ)))
    (status : Status) : Type 0 where
  pub given : List Command
  pub told : Answers
  pub between : Option (List ℕ)
  pub taken : Taken (λ moments. makes moments given told) clock.before between
  pub asked : AsksAtMostOnce status between clock.after
  pub tells : IfSome input.before (λ bytes. Tells status bytes input.after given told out.before out.after)

-- ---- Steps of a connection, whatever was read, taken and written before

-- A step reads and writes, and no command is given or answered.
abbrev pub ReadsOn : (left : Option (List ℕ)) (session : SessionState) (held : Option (List ℕ))
    (left_now : Option (List ℕ)) (session_now : SessionState) (held_now : Option (List ℕ)) → Type 0
ReadsOn left session held left_now session_now held_now =
    (all start : Option (List ℕ)) (commands : List Command) (answers : Answers)
    → Reads all left session start held commands answers
    → Reads all left_now session_now start held_now commands answers

-- The connection may end there with the status, as `Tells` says of its bytes.
abbrev pub EndsThere : (left : Option (List ℕ)) (session : SessionState) (held left_now held_now : Option (List ℕ))
    (status : Status) → Type 0
EndsThere left session held left_now held_now status =
    (all start : Option (List ℕ)) (commands : List Command) (answers : Answers)
    → Reads all left session start held commands answers
    → IfSome all (λ bytes. Tells status bytes left_now commands answers start held_now)

-- A point in a connection: what makes its turns, its session, the source, the clock and the sink.
pub record Point (S : Type 0) : Type 0 where
  pub state : S
  pub session : SessionState
  pub left : Option (List ℕ)
  pub clock : Option (List ℕ)
  pub held : Option (List ℕ)

-- Here `made` says that commands at moments, with their answers, led from one state to another.
module _ {S : Type 0} (made : S → List ℕ → List Command → Answers → S → Type 0) where
  -- The commands led from the state `first` to `now`.
  abbrev pub MadeFrom : (first now : S) (moments : List ℕ) (commands : List Command) (answers : Answers) → Type 0
  MadeFrom first now moments commands answers = made first moments commands answers now

  -- A connection has run from its beginning to the point `here`.
  abbrev pub RunsTo : (first : S) (all old start : Option (List ℕ)) → (here : Point S) → Type 0
  RunsTo first all old start here =
      Running (MadeFrom first here.state) here.session (around all here.left) (around old here.clock)
      (around start here.held)

  -- A connection that has run to `here`, whatever its beginning, runs on to `there`.
  abbrev pub RunsOn : (here there : Point S) → Type 0
  RunsOn here there = (first : S) (all old start : Option (List ℕ)) → RunsTo first all old start here
      → RunsTo first all old start there

  -- A connection that has run to `here` ends at `there`, whose session doesn't matter.
  abbrev pub EndsConnection : (here there : Point S) (status : Status) → Type 0
  EndsConnection here there status =
      (first : S) (all old start : Option (List ℕ)) → RunsTo first all old start here
      → Ended (MadeFrom first there.state) (around all there.left) (around old there.clock) (around start there.held)
      status

  -- The session's last command was taken and answered, and the connection goes on.
  abbrev pub TakesOne : (command : Command) (state : S) (session : SessionState) (clock : Option (List ℕ))
      (state_now : S) (session_now : SessionState) (clock_now : Option (List ℕ)) → Type 0
  TakesOne command state session clock state_now session_now clock_now =
      (first : S) (all left old start held : Option (List ℕ)) (commands : List Command) (answers : Answers)
      → Taken (λ moments. made first moments commands answers state) old clock
      → Reads all left session start held (commands ++ command ∷ []) answers
      → Running (MadeFrom first state_now) session_now (around all left) (around old clock_now) (around start held)

  -- Memory ran out at the last command, which may have been taken, so sending it again isn't safe.
  abbrev pub RanOutOfMemory : (command : Command) (state : S) (session : SessionState) (clock : Option (List ℕ))
      (state_now : S)
      (clock_now : Option (List ℕ)) → Type 0
  RanOutOfMemory command state session clock state_now clock_now =
      (first : S) (all left old start held : Option (List ℕ)) (commands : List Command) (answers : Answers)
      → Taken (λ moments. made first moments commands answers state) old clock
      → Reads all left session start held (commands ++ command ∷ []) answers
      → Ended (MadeFrom first state_now) (around all left) (around old clock_now) (around start held) Memory

-- The greatest head and body together; an unfinished message has fewer bytes.
abbrev pub UNFINISHED_BYTES : ℕ
UNFINISHED_BYTES = HEAD_BYTES + BODY_BYTES

-- Falls with each turn and each read that brings bytes, and so bounds how many may still come.
abbrev pub work : (s : SessionState) → ℕ
work s = to_come s * (UNFINISHED_BYTES + 1) + (UNFINISHED_BYTES - length s.unread)

-- Reading a piece may stop the connection with this status: the source fails, or memory runs out.
abbrev pub IsReadStop : (status : Status) → Type 0
IsReadStop Read = Unit {0}
IsReadStop Memory = Unit {0}
IsReadStop _ = ⊥

-- A piece was read and fed (`true`), the input ended (`false`), or it failed and the session is unchanged.
pub record ReadsPiece (left left_now : Option (List ℕ)) (old new : SessionState) (faults faults_now : ℕ)
    (result : Result Bool Status) : Type 0 where
  pub ok : OnOk result ((held : Option (List ℕ)) → ReadsOn left old held left_now new held)
  pub ends : IfOk result (λ more. more ≡ false → IsAtEnd left_now × (new ≡ old))
  pub grows : old.standing ≡ Live → IfOk result (λ more. more ≡ true → (new ≡ record old { unread = new.unread })
      × (length old.unread < length new.unread))
  pub err : IfErr result (λ s. new ≡ old)
  pub kept : IsErrOf result Read → Keeps left left_now
  pub kinds : IfErr result IsReadStop
  pub later : faults ≤ faults_now
  pub read : IsErrOf result Read → Rose faults faults_now
