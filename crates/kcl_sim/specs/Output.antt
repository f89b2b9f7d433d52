-- The run of a schedule: what each line adds to turns, workers and output.
use Rattle.std.specs.Prelude.{ℕ, ◌≡◌, List, [], ◌∷◌, ◌++◌, codes, decimal, length, Bool, false, Option, Some, None}
use Rattle.std.specs.Prelude.{option_map, Result, Ok, Err, OnErr, OnOk}
use Rattle.kds_base.specs.declared.lease_key.ShardRef.{ShardRef}
use Rattle.kds_defs.specs.declared.command.Turn.{Turn}
use Rattle.kds_defs.specs.declared.command.Command.{Command}
use Rattle.kds_defs.specs.Histories.{answer}
use Rattle.kds_defs.specs.Requests.{request_turn}
use Rattle.kds_json_members.specs.declared.problem.Fault.{Fault}
use Rattle.kds_json.specs.Asked.{asked}
use Rattle.kds_reply.specs.Replies.{reply_of, fault_reply}
use Rattle.kcl_defs.specs.Lives.{Deal}
use Rattle.kcl_defs.specs.Workers.{Release}
use Rattle.kcl_hand.specs.declared.stand.Left.{Left}
use Rattle.kcl_hand.specs.declared.stand.Left.TheVariants as left
use Rattle.kcl_hand.specs.Handing.{hand_left}
use Rattle.kcl_hand.specs.Joints.{hand_of, state_of}
use Rattle.kcl_hand.specs.Runs.{HandRun, hand_run, run_hand, with_hand}
use Rattle.kcl_script_fields.specs.Answers.{answer_text}
use Rattle.kcl_script_fields.specs.Commands.{command_text}
use Rattle.kcl_script.specs.declared.line.Line.{Line}
use Rattle.kcl_script.specs.declared.line.Line.TheVariants.{Api, Hand, Raw, Step, Stop, Worker}
use Rattle.kcl_sim.specs.Workers.{Employed, actor_at, all_called, answered, command_at, employed_by, hired, release_by}
use Rattle.kcl_sim.specs.Workers.{stopped, with_employed}

-- A body at the end of an output line: a space, then the body; nothing if it is empty.
abbrev pub body_part : (bs : List ℕ) → List ℕ
body_part [] = []
body_part (b ∷ bs) = 32 ∷ b ∷ bs

-- The output line with the status `r.0` and the body `r.1`.
abbrev pub printed : (r : ℕ × List ℕ) → List ℕ
printed r = decimal r.0 ++ (body_part r.1 ++ 10 ∷ [])

-- On Ok the whole text is added to the output; on an error nothing is.
pub record AddsWhole {A E : Type 0} (result : Result A E) (old new text : List ℕ) : Type 0 where
  pub ok : OnOk result (new ≡ old ++ text)
  pub err : OnErr result (new ≡ old)

-- The state of a run: its turns, newest first, and its workers in the order of their start.
pub record Ran : Type 0 where
  pub history : List Turn
  pub workers : List Employed

-- The run before its first line.
abbrev pub fresh : Ran
fresh = record { history = []; workers = [] }

-- The run with one more turn.
abbrev pub with_turn : (ran : Ran) (turn : Turn) → Ran
with_turn ran turn = record ran { history = turn ∷ ran.history }

-- The run with `e` in place of the worker of the actor `actor`.
abbrev pub with_worker : (ran : Ran) (actor : ℕ) (e : Employed) → Ran
with_worker ran actor e = record ran { workers = with_employed actor e ran.workers }

-- ---- Requests and raw lines

-- The history after a request: a command adds a turn, a fault adds none.
abbrev pub requested : (h : List Turn) (moment : ℕ) (result : Result Command Fault) → List Turn
requested h moment (Ok command) = request_turn moment command ∷ h
requested h moment (Err f) = h

-- The output of a request: the reply to its command, or to its fault.
abbrev pub request_output : (h : List Turn) (moment : ℕ) (result : Result Command Fault) → List ℕ
request_output h moment (Ok command) = printed (reply_of (answer h (request_turn moment command)))
request_output h moment (Err f) = printed (fault_reply f)

-- The turn with this command.
abbrev pub raw_turn : (moment actor : ℕ) (command : Command) → Turn
raw_turn moment actor command = record { by = actor; at = moment; what = command }

-- The output line of a turn: its answer; `long` prints a survey's rows, otherwise their number.
abbrev pub raw_output : (h : List Turn) (turn : Turn) (long : Bool) → List ℕ
raw_output h turn long = answer_text long (answer h turn) ++ 10 ∷ []

-- ---- Steps of workers

-- The run after `e`, its due calls made, sent its next command and took the answer; None adds no turn.
abbrev pub with_command : (ran : Ran) (moment actor : ℕ) (e : Employed) (command : Option Command) → Ran
with_command ran moment actor e None = with_worker ran actor e
with_command ran moment actor e (Some command) =
    with_worker (with_turn ran (raw_turn moment actor command)) actor
    (answered moment (answer ran.history (raw_turn moment actor command)) e)

-- The output of a step: the command with its answer, or "idle" if there is none.
abbrev pub command_output : (h : List Turn) (moment actor : ℕ) (command : Option Command) → List ℕ
command_output h moment actor None = codes "idle" ++ 10 ∷ []
command_output h moment actor (Some command) =
    command_text command ++ (codes " = " ++ (answer_text false (answer h (raw_turn moment actor command)) ++ 10 ∷ []))

-- The run after a worker's step: all due calls, then its next command, if any. None changes nothing.
abbrev pub with_step : (ran : Ran) (moment actor : ℕ) (e : Option Employed) → Ran
with_step ran moment actor None = ran
with_step ran moment actor (Some e) = with_command ran moment actor (all_called e) (command_at moment (all_called e))

-- The output of a step: the command with its answer, "idle", or "none" without a worker.
abbrev pub step_output : (ran : Ran) (moment actor : ℕ) (e : Option Employed) → List ℕ
step_output ran moment actor None = codes "none" ++ 10 ∷ []
step_output ran moment actor (Some e) = command_output ran.history moment actor (command_at moment (all_called e))

-- ---- Stops

-- The run after a worker was told to stop.
abbrev pub with_stop : (ran : Ran) (actor : ℕ) (e : Option Employed) → Ran
with_stop ran actor None = ran
with_stop ran actor (Some e) = with_worker ran actor (stopped e)

-- The output of a stop: "stopping", or "none" without a worker.
abbrev pub stop_output : (e : Option Employed) → List ℕ
stop_output None = codes "none" ++ 10 ∷ []
stop_output (Some e) = codes "stopping" ++ 10 ∷ []

-- ---- Hand-offs

-- The run after `e` released the lease of `key` and its hand-off made `run`; `e`'s trace has both.
abbrev pub with_hand_run : (ran : Ran) (actor : ℕ) (key : ShardRef) (e : Employed) (run : HandRun) → Ran
with_hand_run ran actor key e run =
    with_worker (record ran { history = run.history }) actor
    (record e { past = with_hand key run.hand.since e.made e.past })

-- The run after the release's hand-off ran to its end; None changes nothing.
abbrev pub with_release : (ran : Ran) (moment actor : ℕ) (key : ShardRef) (e : Employed) (r : Option Release) → Ran
with_release ran moment actor key e None = ran
with_release ran moment actor key e (Some r) =
    with_hand_run ran actor key e (hand_run moment actor ran.history (hand_of r []))

-- The run after a hand-off line; without a worker or such a lease nothing changes.
abbrev pub with_handed : (ran : Ran) (moment actor : ℕ) (key : ShardRef) (e : Option Employed) → Ran
with_handed ran moment actor key None = ran
with_handed ran moment actor key (Some e) = with_release ran moment actor key e (release_by key (Some e))

-- A command and its answer, as `COMMAND = ANSWER; `.
abbrev pub deal_text : (deal : Deal) → List ℕ
deal_text deal = command_text deal.what ++ (codes " = " ++ (answer_text false deal.answer ++ codes "; "))

-- Each command with its answer, in order.
abbrev pub deals_text : (deals : List Deal) → List ℕ
deals_text [] = []
deals_text (deal ∷ deals) = deal_text deal ++ deals_text deals

-- How a hand-off ended: "refused" if its mark or its freeing was refused, else "handed".
abbrev pub left_text : (left : Option Left) → List ℕ
left_text (Some (left.Refused r)) = codes "refused"
left_text _ = codes "handed"

-- The output line of a hand-off: its commands with answers, then "handed" or "refused".
abbrev pub run_text : (run : HandRun) → List ℕ
run_text run = deals_text run.deals ++ (left_text (hand_left (state_of run.hand)) ++ 10 ∷ [])

-- The output of a hand-off line, or "none" if no lease was released.
abbrev pub hand_output : (h : List Turn) (moment actor : ℕ) (r : Option Release) → List ℕ
hand_output h moment actor None = codes "none" ++ 10 ∷ []
hand_output h moment actor (Some r) = run_text (hand_run moment actor h (hand_of r []))

-- The history after at most the first `n` commands of the released lease's hand-off.
abbrev pub history_at : (n : ℕ) (h : List Turn) (moment actor : ℕ) (r : Release) → List Turn
history_at n h moment actor r = (run_hand n moment actor h (hand_of r [])).history

-- The history after at most `n` commands of a hand-off line; None if no lease is released or the line is another.
abbrev pub part_of : (n : ℕ) (ran : Ran) (line : Line) → Option (List Turn)
part_of n ran (Hand moment actor key) =
    option_map (history_at n ran.history moment actor) (release_by key (employed_by actor ran.workers))
part_of n ran _ = None

-- ---- Lines

-- The run after one more line; a `raw` line adds a turn even if its command is refused.
abbrev pub with_line : (ran : Ran) (line : Line) → Ran
with_line ran (Api moment operation body) = record ran { history = requested ran.history moment (asked operation body) }
with_line ran (Raw moment actor command long) = with_turn ran (raw_turn moment actor command)
with_line ran (Worker moment name kind origin) = record ran { workers = ran.workers ++ hired name kind origin ∷ [] }
with_line ran (Step moment actor) = with_step ran moment actor (employed_by actor ran.workers)
with_line ran (Stop moment actor) = with_stop ran actor (employed_by actor ran.workers)
with_line ran (Hand moment actor key) = with_handed ran moment actor key (employed_by actor ran.workers)

-- The text that a line adds to the output; `ran` is the run before it.
abbrev pub output_of : (ran : Ran) (line : Line) → List ℕ
output_of ran (Api moment operation body) = request_output ran.history moment (asked operation body)
output_of ran (Raw moment actor command long) = raw_output ran.history (raw_turn moment actor command) long
output_of ran (Worker moment name kind origin) = codes "worker " ++ (decimal (actor_at (length ran.workers)) ++ 10 ∷ [])
output_of ran (Step moment actor) = step_output ran moment actor (employed_by actor ran.workers)
output_of ran (Stop moment actor) = stop_output (employed_by actor ran.workers)
output_of ran (Hand moment actor key) =
    hand_output ran.history moment actor (release_by key (employed_by actor ran.workers))

-- The run continued with the lines, in order.
abbrev pub with_schedule : (ran : Ran) (ls : List Line) → Ran
with_schedule ran [] = ran
with_schedule ran (l ∷ ls) = with_schedule (with_line ran l) ls

-- The output of the lines; `ran` is the run before the first of them.
abbrev pub outputs : (ran : Ran) (ls : List Line) → List ℕ
outputs ran [] = []
outputs ran (l ∷ ls) = output_of ran l ++ outputs (with_line ran l) ls
