-- The workers of a run, each determined by its list of events (Kinesis Client Library, scheduler).
use Rattle.std.specs.Prelude.{ℕ, ◌+◌, ◌-◌, nat_le, if◌then◌else◌, List, [], ◌∷◌, slice_get, slice_set, Option, Some}
use Rattle.std.specs.Prelude.{None, option_map, Result}
use Rattle.kds_base.specs.declared.lease_key.ShardRef.{ShardRef}
use Rattle.kds_defs.specs.declared.command.Command.{Command}
use Rattle.kds_defs.specs.declared.command.Origin.{Origin}
use Rattle.kds_defs.specs.declared.limits.TheConstants.{MOST_ACTOR}
use Rattle.kds_defs.specs.declared.reply.Refusal.{Refusal}
use Rattle.kds_defs.specs.declared.reply.Reply.{Reply}
use Rattle.kcl_defs.specs.declared.consumer.Ask.{Ask}
use Rattle.kcl_defs.specs.declared.consumer.Ask.TheVariants as ask
use Rattle.kcl_defs.specs.declared.consumer.WorkerMade.{WorkerMade}
use Rattle.kcl_defs.specs.Consumers.{Stage, Holding, first_batch}
use Rattle.kcl_defs.specs.Workers.{Known, Release, WorkerState, Made_call, Gave_command, Got_answer, Stopped}
use Rattle.kcl_defs.specs.Workers.{is_due_known, is_idle, next_pending, stage_of_known, released, usual_settings}
use Rattle.kcl_hand.specs.Joints.{JointPast, Of_worker, worker_in}
use Rattle.kcl_proc.specs.declared.stock.Kind.{Kind}
use Rattle.kcl_proc.specs.Stocks.{asked_of}

-- A worker of a run: its processors' kind, its settings, and its joint trace, newest event first.
pub record Employed : Type 0 where
  pub kind : Kind
  pub made : WorkerMade
  pub past : JointPast

-- The worker's state after all events of its trace.
abbrev pub state_of : (e : Employed) → WorkerState
state_of e = worker_in e.made e.past

-- A new worker with the usual settings, whose rows have the origin `origin`.
abbrev pub hired : (name : ℕ) (kind : Kind) (origin : Origin) → Employed
hired name kind origin = record {
  kind = kind;
  made = record { name = name; settings = record usual_settings { from = origin } };
  past = [];
}

-- ---- Actors: raw lines have the numbers up to `MOST_ACTOR`, and the workers have the numbers after it, in the order
-- in which they were made

-- The actor of the worker at this index, counted from 0.
abbrev pub actor_at : (index : ℕ) → ℕ
actor_at index = MOST_ACTOR + 1 + index

-- The index of the actor's worker, if the actor is above `MOST_ACTOR`.
abbrev pub index_of : (actor : ℕ) → ℕ
index_of actor = actor - (MOST_ACTOR + 1)

-- The worker of the actor; None if the actor is no worker.
abbrev pub employed_by : (actor : ℕ) (workers : List Employed) → Option Employed
employed_by actor workers = if nat_le actor MOST_ACTOR then None else slice_get workers (index_of actor)

-- The workers with `e` in place of the actor's worker; unchanged if there is none.
abbrev pub with_employed : (actor : ℕ) (e : Employed) (workers : List Employed) → List Employed
with_employed actor e workers = slice_set workers (index_of actor) e

-- ---- What happens to a worker

-- What a processor asks for in the due call of this stage; only after a batch may it be a checkpoint.
abbrev pub ask_in : (kind : Kind) (stage : Stage) → Ask
ask_in kind (Holding reach waiting) = asked_of kind (first_batch waiting)
ask_in kind _ = ask.None

-- The trace with a call for each of these consumers that has one due, in their order.
abbrev pub with_calls : (kind : Kind) (known : List Known) (past : JointPast) → JointPast
with_calls kind [] past = past
with_calls kind (k ∷ known) past =
    if is_due_known k
    then with_calls kind known (Of_worker (Made_call (ask_in kind (stage_of_known k))) ∷ past)
    else with_calls kind known past

-- The worker after each consumer's due call was made, at most one for each.
abbrev pub all_called : (e : Employed) → Employed
all_called e = record e { past = with_calls e.kind (state_of e).consumers e.past }

-- The worker's next command; None if it is idle or none comes next.
abbrev pub command_at : (moment : ℕ) (e : Employed) → Option Command
command_at moment e =
    if is_idle (state_of e) then None else option_map (λ p. p.what) (next_pending e.made moment (state_of e))

-- The worker after it gave its next command and took the answer, both at one moment.
abbrev pub answered : (moment : ℕ) (answer : Result Reply Refusal) (e : Employed) → Employed
answered moment answer e =
    record e { past = Of_worker (Got_answer moment answer) ∷ Of_worker (Gave_command moment) ∷ e.past }

-- The worker after it was told to stop.
abbrev pub stopped : (e : Employed) → Employed
stopped e = record e { past = Of_worker Stopped ∷ e.past }

-- The lease and consumer that a release of `key` takes out of the worker; None without worker or lease.
abbrev pub release_by : (key : ShardRef) (e : Option Employed) → Option Release
release_by key None = None
release_by key (Some e) = released key (state_of e)
