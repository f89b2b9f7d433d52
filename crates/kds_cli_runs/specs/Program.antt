-- What is known when the program ends with an exit status.
use Rattle.std.specs.Prelude.{◌≡◌, ◌⊎◌, ℕ, List, String, IfSome, Bool, false, Some, None}
use Rattle.std.specs.declared.alloc.Global.{Global}
use Rattle.std.specs.declared.option.Option.{Option}
use Rattle.std.specs.Io.KnownBytes.{Appends}
use Rattle.kds_ends.specs.declared.status.Status.{Status}
use Rattle.kds_cli_words.specs.declared.task.Task.{Task}
use Rattle.kds_ends.specs.Causes.{Rose}
use Rattle.kds_ends.specs.Status.{code_of}
use Rattle.kds_cli_words.specs.Words.{task_of, texts_of}
use Rattle.kds_server.specs.Around.{Around}
use Rattle.kds_cli_runs.specs.Completed.{Completed}
use Rattle.kds_cli_runs.specs.Ends.{Performed, TaskEnds, reads_input, serves_door}
use Rattle.kds_cli_runs.specs.Words.{error_text}

-- The exit status, the text on the error output (unless it failed) and the task's end all fit one status.
pub record EndsSo (code : ℕ) (words : List (String Global)) (ends : TaskEnds) (err : Around (Option (List ℕ)))
    (faults : Around ℕ) : Type 0 where
  pub status : Status
  pub is_code : code ≡ code_of status
  pub error : Appends err.before err.after (error_text status) ⊎ Rose faults.before faults.after
  pub performed : IfSome (task_of (texts_of words)) (λ t. Performed t status ends)

-- Without failing ends, the exit status is what the bytes decide for the task, or Memory's.
pub record CompletesSo (code : ℕ) (words : List (String Global)) (bytes : Option (List ℕ)) : Type 0 where
  pub status : Status
  pub is_code : code ≡ code_of status
  pub completed : IfSome (task_of (texts_of words)) (λ t. Completed t status bytes)

-- Whether words that ask for this task ask for a door.
abbrev pub asks_for_door : (task : Option Task) → Bool
asks_for_door None = false
asks_for_door (Some task) = serves_door task

-- Whether words that ask for this task ask for the input.
abbrev pub asks_for_input : (task : Option Task) → Bool
asks_for_input None = false
asks_for_input (Some task) = reads_input task
