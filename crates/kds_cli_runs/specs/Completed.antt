-- How each task ends if its input, output and door (the listening socket) don't fail.
use Rattle.std.specs.Prelude.{◌≡◌, ◌⊎◌, ℕ, List, IfSome}
use Rattle.std.specs.declared.option.Option.{Option}
use Rattle.kcl_audit.specs.Audited.{AuditsAs}
use Rattle.kds_ends.specs.declared.status.Status.{Status}
use Rattle.kds_ends.specs.declared.status.Status.TheVariants.{Done, BadLine, Memory, TooLong}
use Rattle.kds_server.specs.Texts.{EndsAs}
use Rattle.kds_cli_words.specs.declared.task.Task.{Task}
use Rattle.kds_cli_words.specs.declared.task.Task.TheVariants.{Replay, Answer, Audit, Serve, Drill}
use Rattle.kcl_sim.specs.Schedule.{Ending, bad_line, ending, too_long, whole}

-- The status of a replay in which nothing fails: Done, TooLong, or BadLine with the first bad line's number.
abbrev pub replay_status : (whole : Ending) → Status
replay_status whole = Done
replay_status too_long = TooLong
replay_status (bad_line n) = BadLine n

-- The status is `decided` or Memory.
abbrev pub EndsBy : (decided status : Status) → Type 0
EndsBy decided status = (status ≡ decided) ⊎ (status ≡ Memory)

-- The replay's status is what the schedule's ending gives, or Memory.
abbrev pub ReplaysAs : (bytes : List ℕ) (status : Status) → Type 0
ReplaysAs bytes status = EndsBy (replay_status (ending bytes)) status

-- Without failing ends: what the bytes decide (a drill: Done) or Memory; serving ends only with Memory.
abbrev pub Completed : (task : Task) (status : Status) (bytes : Option (List ℕ)) → Type 0
Completed (Replay journal) status bytes = IfSome bytes (λ bs. ReplaysAs bs status)
Completed Answer status bytes = IfSome bytes (λ bs. EndsAs bs status)
Completed Audit status bytes = IfSome bytes (λ bs. AuditsAs bs status)
Completed (Serve port passes) status bytes = status ≡ Memory
Completed (Drill number workers records) status bytes = EndsBy Done status
