-- What was written and run when a task ends with a status.
use Rattle.std.specs.Prelude.{◌≡◌, ◌⊎◌, ℕ, List, [], Bool, true, false, IfSome}
use Rattle.std.specs.declared.option.Option.{Option}
use Rattle.std.specs.Io.KnownBytes.{Appends}
use Rattle.kcl_audit.specs.Audited.{IsAuditStatus, IsNoJournal, IsSafely, TellsAudit}
use Rattle.kds_ends.specs.declared.status.Status.{Status}
use Rattle.kds_ends.specs.declared.status.Status.TheVariants.{Done, Unsound, Write, Memory, Door}
use Rattle.kds_ends.specs.Causes.{AppendsPart}
use Rattle.kds_server.specs.Around.{Around, around}
use Rattle.kds_server.specs.Texts.{IsAnswerStatus}
use Rattle.kds_server.specs.Serving.{Served}
use Rattle.kds_cli_words.specs.declared.task.Task.{Task}
use Rattle.kds_cli_words.specs.declared.task.Task.TheVariants.{Replay, Answer, Audit, Serve, Drill}
use Rattle.kcl_script.specs.declared.line.Line.{Line}
use Rattle.kcl_sim.specs.Output.{fresh, outputs}
use Rattle.kcl_drill_run.specs.Told.{DrillTells}
use Rattle.kds_cli_runs.specs.Answered.{RanSafely}
use Rattle.kds_cli_runs.specs.Journal.{IsAuditedSound, JournalTells, recorded}
use Rattle.kds_cli_runs.specs.Told.{IsReplayStatus, Tells}
use Rattle.kds_cli_runs.specs.Words.{listening}

-- ---- A replay, which writes its answers or its journal

-- A replay's output for the lines run: the journal (`true`) or the answers.
abbrev pub shown : (is_shown : Bool) (status : Status) (line : List Line) → List ℕ
shown false status = outputs fresh
shown true status = recorded status

-- What a replay's status says of input and output; `true` if the journal is written.
abbrev pub ReplayTells : (is_shown : Bool) (status : Status) (bytes : List ℕ) (left held now : Option (List ℕ)) → Type
    0
ReplayTells false status bytes left held now = Tells status bytes left held now
ReplayTells true status bytes left held now = JournalTells status bytes left held now

-- A replay ended with a right status and a safe state; a whole journal is sound unless too long to audit.
pub record Replayed (journal : Bool) (status : Status) (input out : Around (Option (List ℕ))) : Type 0 where
  pub kind : IsReplayStatus status
  pub told : IfSome input.before (λ bs. ReplayTells journal status bs input.after out.before out.after)
  pub ran : IfSome input.before (λ bs. RanSafely (shown journal status) status bs out.before out.after)
  pub sound : journal ≡ true → status ≡ Done → IfSome input.before IsAuditedSound

-- ---- An audit

-- An audit ended with a right status: Done only for a legal journal with a safe state, Unsound only for no journal.
pub record Audited (status : Status) (bytes : Option (List ℕ)) (out : Around (Option (List ℕ))) : Type 0 where
  pub kind : IsAuditStatus status
  pub told : IfSome bytes (λ bs. TellsAudit status bs out.before out.after)
  pub safe : status ≡ Done → IfSome bytes IsSafely
  pub legal : status ≡ Unsound → IfSome bytes IsNoJournal

-- ---- Connections

-- A connection to a machine without turns ended; the clock had `moments` before and `spent` after.
pub record Answers (status : Status) (input out : Around (Option (List ℕ))) (moments : Option (List ℕ)) : Type 0 where
  pub kind : IsAnswerStatus status
  pub spent : Option (List ℕ)
  pub served : Served [] input (around moments spent) out status

-- The line `listening` was written and the door listens, or nothing was written.
abbrev pub SaysThatItListens : (held now : Option (List ℕ)) (listens : Type 0) → Type 0
SaysThatItListens held now listens = (Appends held now listening × listens) ⊎ Appends held now []

-- What serving wrote: `listening` or nothing with Door and Memory, and a proper prefix with Write.
abbrev pub ServeTells : (status : Status) (held now : Option (List ℕ)) (listens : Type 0) → Type 0
ServeTells Door held now listens = SaysThatItListens held now listens
ServeTells Memory held now listens = SaysThatItListens held now listens
ServeTells Write held now listens = AppendsPart held now listening × listens
ServeTells _ held now listens = ⊥

-- ---- All tasks

-- A task's ends as contracts see them; None if an end doesn't tell its bytes or moments.
pub record TaskEnds : Type 1 where
  pub input : Around (Option (List ℕ))
  pub out : Around (Option (List ℕ))
  pub moments : Option (List ℕ)
  pub listens : ℕ → Type 0

-- The ends with these bytes, moments and ports.
abbrev pub task_ends : (input out : Around (Option (List ℕ))) (moments : Option (List ℕ)) (listens : ℕ → Type 0) →
    TaskEnds
task_ends input out moments listens = record { input = input; out = out; moments = moments; listens = listens }

-- The task ended with this status, and its ends fit the status.
abbrev pub Performed : (task : Task) (status : Status) (ends : TaskEnds) → Type 0
Performed (Replay journal) status ends = Replayed journal status ends.input ends.out
Performed Answer status ends = Answers status ends.input ends.out ends.moments
Performed Audit status ends = Audited status ends.input.before ends.out
Performed (Serve port passes) status ends = ServeTells status ends.out.before ends.out.after (ends.listens port)
Performed (Drill number workers records) status ends = DrillTells status number records ends.out.before ends.out.after

-- Whether the task serves a door (a listening socket).
abbrev pub serves_door : (task : Task) → Bool
serves_door (Serve port passes) = true
serves_door _ = false

-- Whether the task reads the input.
abbrev pub reads_input : (task : Task) → Bool
reads_input (Serve port passes) = false
reads_input (Drill number workers records) = false
reads_input _ = true
