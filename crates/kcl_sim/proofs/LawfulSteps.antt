-- Workers' turns are lawful if names are at least 1 and Read limits are in the range of the API.
use Rattle.std.proofs.Common.{◌≡◌, ℕ, zero, suc, ◌<◌, ◌≤◌, ◌^◌, Bool, true, false, List, [], ◌∷◌, ◌++◌, Option, Some}
use Rattle.std.proofs.Common.{None, Result, Ok, Err, refl, subst, arith}
use Rattle.std.specs.Prelude.{cond, not, nat_le, if◌then◌else◌, option_map, slice_get, slice_set}
use Rattle.std.specs.List.{AllByRecursion, filter, find}
use Rattle.kds_base.specs.declared.lease_key.ShardRef.{ShardRef}
use Rattle.kds_defs.specs.declared.command.Command.{Command}
use Rattle.kds_defs.specs.declared.limits.TheConstants.{MOST_ACTOR}
use Rattle.kds_defs.specs.declared.reply.Refusal.{Refusal}
use Rattle.kds_defs.specs.declared.reply.Reply.{Reply}
use Rattle.kds_defs.specs.declared.reply.Reply.TheVariants as reply
use Rattle.kds_defs.specs.Lawful.{IsHistory, IsLawfulCommand, IsLimit}
use Rattle.kcl_defs.specs.declared.consumer.Tenancy.{Tenancy}
use Rattle.kcl_defs.specs.declared.consumer.WorkerMade.{WorkerMade}
use Rattle.kcl_defs.specs.declared.plans.TenancyId.{TenancyId}
use Rattle.kcl_defs.specs.declared.plans.SyncStep.{SyncStep}
use Rattle.kcl_defs.specs.declared.plans.SyncStep.TheVariants.{Make, Cut}
use Rattle.kcl_defs.specs.declared.plans.TakeStep.{TakeStep}
use Rattle.kcl_defs.specs.Consumers.{Called, Event, Losing, Stage, Opening, Filling, Giving, Marking, MarkingEnd}
use Rattle.kcl_defs.specs.Consumers.{next_command}
use Rattle.kcl_defs.specs.Workers.{Chore, Consuming, Finishing, Freeing, Renewing, Surveying, Syncing, Taking, Known}
use Rattle.kcl_defs.specs.Workers.{Pending, WorkerPast, WorkerState, Gave_command, Got_answer, Made_call, Stopped}
use Rattle.kcl_defs.specs.Workers.{absorbed, after_chore, after_renewal, after_survey, after_take, chore_at, command_of}
use Rattle.kcl_defs.specs.Workers.{consumer_command, counter_of, happens_to, happens_to_first, id_of, is_before_id}
use Rattle.kcl_defs.specs.Workers.{is_due_known, is_over, known_of, next_pending, pending_chore, pending_of}
use Rattle.kcl_defs.specs.Workers.{stage_of_known, same_id, sync_command, with_event, with_known, worker_after, Release}
use Rattle.kcl_defs.specs.Workers.{Released, id_of_held, released, without_known, without_release}
use Rattle.kcl_script.specs.declared.line.Line.{Line}
use Rattle.kcl_hand.specs.Joints.{worker_past}
use Rattle.kcl_script.specs.declared.line.Line.TheVariants.{Api, Hand, Raw, Step, Stop, Worker}
use Rattle.kcl_script.specs.Line.{IsLine}
use Rattle.kcl_sim.specs.Output.{Ran, with_command, with_handed, with_line, with_release, with_step, with_stop}
use Rattle.kcl_sim.specs.Workers.{Employed, all_called, command_at, employed_by, index_of, release_by, state_of}

-- ---- The consumers of a worker ask for no more records than a Read may ask for

-- The consumer's limit for a Read is in the range of the API.
unfoldable pub HasLimit : Known → Type 0
HasLimit k = IsLimit k.made.limit

-- All these consumers have a limit in range.
unfoldable pub AllLimits : List Known → Type 0
AllLimits ks = AllByRecursion HasLimit ks

keeps : (b : Bool) (k : Known) (ks : List Known) → HasLimit k → AllLimits ks → AllLimits (cond b (k ∷ ks) ks)
unfolding HasLimit AllLimits
keeps true k ks h rest = (h, rest)
keeps false k ks h rest = rest

filtered : (p : Known → Bool) (ks : List Known) → AllLimits ks → AllLimits (filter p ks)
unfolding HasLimit AllLimits
filtered p [] h = tt
filtered p (k ∷ ks) h = keeps (p k) k (filter p ks) h.0 (filtered p ks h.1)

event_by : (b : Bool) (event : Event) (k : Known) → HasLimit k → HasLimit (if b then with_event event k else k)
unfolding HasLimit
event_by true event k h = h
event_by false event k h = h

all_happen : (test : Known → Bool) (event : Event) (ks : List Known) → AllLimits ks
    → AllLimits (happens_to test event ks)
unfolding HasLimit AllLimits
all_happen test event [] h = tt
all_happen test event (k ∷ ks) h = (event_by (test k) event k h.0, all_happen test event ks h.1)

first_by : (b : Bool) (event : Event) (k : Known) (ks happened : List Known) → HasLimit k → AllLimits ks
    → AllLimits happened → AllLimits (if b then with_event event k ∷ ks else k ∷ happened)
unfolding HasLimit AllLimits
first_by true event k ks happened h rest others = (h, rest)
first_by false event k ks happened h rest others = (h, others)

first_happens : (test : Known → Bool) (event : Event) (ks : List Known) → AllLimits ks
    → AllLimits (happens_to_first test event ks)
unfolding AllLimits
first_happens test event [] h = tt
first_happens test event (k ∷ ks) h = first_by (test k) event k ks _ h.0 h.1 (first_happens test event ks h.1)

placed_by : (b : Bool) (k j : Known) (ks placed : List Known) → HasLimit k → HasLimit j → AllLimits ks
    → AllLimits placed → AllLimits (if b then k ∷ j ∷ ks else j ∷ placed)
unfolding HasLimit AllLimits
placed_by true k j ks placed h g rest others = (h, (g, rest))
placed_by false k j ks placed h g rest others = (g, others)

all_with : (k : Known) (ks : List Known) → HasLimit k → AllLimits ks → AllLimits (with_known k ks)
unfolding AllLimits
all_with k [] h rest = (h, tt)
all_with k (j ∷ ks) h rest =
    placed_by (is_before_id (id_of k) (id_of j)) k j ks _ h rest.0 rest.1 (all_with k ks h rest.1)

survey_limits : (made : WorkerMade) (now : ℕ) (answer : Result Reply Refusal) (w : WorkerState) → AllLimits w.consumers
    → AllLimits (after_survey made now answer w).consumers
survey_limits made now (Ok (reply.Survey shards rows)) w h = all_happen _ _ w.consumers h
survey_limits made now (Ok _) w h = h
survey_limits made now (Err r) w h = h

take_limits : (made : WorkerMade) (now : ℕ) (step : TakeStep) (answer : Result Reply Refusal) (w : WorkerState)
    → IsLimit made.settings.limit → AllLimits w.consumers → AllLimits (after_take made now step answer w).consumers
unfolding HasLimit
take_limits made now step (Ok (reply.Taken tenure counter start)) w limit h = all_with _ w.consumers limit h
take_limits made now step (Ok _) w limit h = h
take_limits made now step (Err r) w limit h = h

renewal_limits : (now : ℕ) (held : _) (answer : Result Reply Refusal) (w : WorkerState) → AllLimits w.consumers
    → AllLimits (after_renewal now held answer w).consumers
renewal_limits now held (Ok (reply.Counter counter)) w h = h
renewal_limits now held (Ok _) w h = h
renewal_limits now held (Err r) w h = all_happen _ _ w.consumers h

chore_limits : (made : WorkerMade) (now : ℕ) (answer : Result Reply Refusal) (chore : Chore) (w : WorkerState)
    → IsLimit made.settings.limit → AllLimits w.consumers → AllLimits (after_chore made now answer chore w).consumers
chore_limits made now answer Surveying w limit h = survey_limits made now answer w h
chore_limits made now answer (Syncing step syncs takes) w limit h = h
chore_limits made now answer (Taking step takes) w limit h = take_limits made now step answer _ limit h
chore_limits made now answer (Renewing held) w limit h = renewal_limits now held answer _ h
chore_limits made now answer (Consuming id) w limit h = first_happens _ _ w.consumers h
chore_limits made now answer (Finishing id) w limit h = first_happens _ _ w.consumers h
chore_limits made now answer (Freeing held) w limit h = h

absorbed_limits : (made : WorkerMade) (now : ℕ) (answer : Result Reply Refusal) (w : WorkerState) (o : Option Pending)
    → IsLimit made.settings.limit → AllLimits w.consumers → AllLimits (absorbed made now answer w o).consumers
absorbed_limits made now answer w None limit h = h
absorbed_limits made now answer w (Some pending) limit h =
    filtered _ _ (chore_limits made now answer pending.chore (record w { waiting = None }) limit h)

less_by : (b : Bool) (k : Known) (ks less : List Known) → HasLimit k → AllLimits ks → AllLimits less
    → AllLimits (if b then ks else k ∷ less)
unfolding HasLimit AllLimits
less_by true k ks less h rest others = rest
less_by false k ks less h rest others = (h, others)

all_without : (id : TenancyId) (ks : List Known) → AllLimits ks → AllLimits (without_known id ks)
unfolding AllLimits
all_without id [] h = tt
all_without id (k ∷ ks) h = less_by (same_id (id_of k) id) k ks (without_known id ks) h.0 h.1 (all_without id ks h.1)

released_limits : (o : Option Release) (w : WorkerState) → AllLimits w.consumers
    → AllLimits (without_release o w).consumers
released_limits None w h = h
released_limits (Some r) w h = all_without (id_of_held r.held) w.consumers h

-- Each consumer's limit stays in range if the worker's settings have it so.
pub limits_after : (made : WorkerMade) → IsLimit made.settings.limit → (past : WorkerPast)
    → AllLimits (worker_after made past).consumers
unfolding AllLimits
limits_after made limit [] = tt
limits_after made limit (Made_call asked ∷ past) =
    filtered (λ k. not (is_over k)) _
    (first_happens is_due_known (Called asked) (worker_after made past).consumers (limits_after made limit past))
limits_after made limit (Gave_command now ∷ past) = limits_after made limit past
limits_after made limit (Got_answer now answer ∷ past) =
    absorbed_limits made now answer (worker_after made past) (worker_after made past).waiting limit
    (limits_after made limit past)
limits_after made limit (Stopped ∷ past) =
    filtered (λ k. not (is_over k)) _
    (all_happen (λ k. true) Losing (worker_after made past).consumers (limits_after made limit past))
limits_after made limit (Released key ∷ past) =
    released_limits (released key (worker_after made past)) (worker_after made past) (limits_after made limit past)

-- ---- The command that comes next

found_by : (b : Bool) (k j : Known) (o : Option Known) → cond b (Some k) o ≡ Some j → HasLimit k
    → (o ≡ Some j → HasLimit j) → HasLimit j
found_by true k j o is h rest = let e : k ≡ j = cc in subst HasLimit e h
found_by false k j o is h rest = rest is

pub found_limit : (p : Known → Bool) (ks : List Known) (k : Known) → find p ks ≡ Some k → AllLimits ks → HasLimit k
unfolding AllLimits
found_limit p [] k is h = absurd cc
found_limit p (j ∷ ks) k is h = found_by (p j) j k _ is h.0 (λ more. found_limit p ks k more h.1)

pub so_lawful : (a b : Command) → Some a ≡ Some b → IsLawfulCommand a → IsLawfulCommand b
so_lawful a b is h = let e : a ≡ b = cc in subst IsLawfulCommand e h

pub stage_command : (made : Tenancy) (p : Stage) (counter : ℕ) (command : Command)
    → next_command made p counter ≡ Some command → IsLimit made.limit
    → IsLawfulCommand command
stage_command made Opening counter command is limit = so_lawful _ _ is tt
stage_command made (Filling reach waiting) counter command is limit = so_lawful _ _ is limit
stage_command made (Giving reach waiting asked lost) counter command is limit = so_lawful _ _ is tt
stage_command made (Marking reach waiting target) counter command is limit = so_lawful _ _ is tt
stage_command made MarkingEnd counter command is limit = so_lawful _ _ is tt
stage_command made _ counter command is limit = absurd cc

consumer_lawful : (w : WorkerState) (o : Option Known) (command : Command) → consumer_command w o ≡ Some command
    → ((k : Known) → o ≡ Some k → HasLimit k) → IsLawfulCommand command
unfolding HasLimit
consumer_lawful w None command is limits = absurd cc
consumer_lawful w (Some k) command is limits =
    stage_command k.made (stage_of_known k) (counter_of (id_of k) w.held) command is (limits k refl)

sync_lawful : (step : SyncStep) → IsLawfulCommand (sync_command step)
sync_lawful (Make key origin) = tt
sync_lawful (Cut key counter) = tt

command_lawful : (made : WorkerMade) (w : WorkerState) (chore : Chore) (command : Command)
    → command_of made w chore ≡ Some command → 1 ≤ made.name → AllLimits w.consumers → IsLawfulCommand command
command_lawful made w (Syncing step syncs takes) command is name limits = so_lawful _ _ is (sync_lawful step)
command_lawful made w (Taking step takes) command is name limits = so_lawful _ _ is name
command_lawful made w (Consuming id) command is name limits =
    consumer_lawful w (known_of id w.consumers) command is (λ k found. found_limit _ w.consumers k found limits)
command_lawful made w _ command is name limits = so_lawful _ _ is tt

pending_lawful : (made : WorkerMade) (w : WorkerState) (chore : Chore) (o : Option Command) (command : Command)
    → option_map (λ p. p.what) (pending_of chore o) ≡ Some command → (o ≡ Some command → IsLawfulCommand command)
    → IsLawfulCommand command
pending_lawful made w chore None command is rest = absurd cc
pending_lawful made w chore (Some c) command is rest = rest is

chore_lawful : (made : WorkerMade) (w : WorkerState) (o : Option Chore) (command : Command)
    → option_map (λ p. p.what) (pending_chore made w o) ≡ Some command → 1 ≤ made.name → AllLimits w.consumers
    → IsLawfulCommand command
chore_lawful made w None command is name limits = absurd cc
chore_lawful made w (Some chore) command is name limits =
    pending_lawful made w chore (command_of made w chore) command is
    (λ c. command_lawful made w chore command c name limits)

-- ---- The workers of a run

-- The worker's name is at least 1, and its limit for a Read is in the range of the API.
pub record IsBounded (e : Employed) : Type 0 where
  pub name : 1 ≤ e.made.name
  pub limit : IsLimit e.made.settings.limit

-- All these workers are bounded.
abbrev pub AreBounded : List Employed → Type 0
AreBounded es = AllByRecursion IsBounded es

next_lawful : (b : Bool) (moment : ℕ) (e : Employed) (command : Command)
    → (if b then None else option_map (λ p. p.what) (next_pending e.made moment (state_of e))) ≡ Some command
    → IsBounded e
    → IsLawfulCommand command
next_lawful true moment e command is h = absurd cc
next_lawful false moment e command is h =
    chore_lawful e.made (state_of e) (chore_at e.made moment (state_of e)) command is h.name
    (limits_after e.made h.limit (worker_past e.past))

bounded_at : (es : List Employed) (index : ℕ) (e : Employed) → slice_get es index ≡ Some e → AreBounded es → IsBounded e
bounded_at [] index e is h = absurd cc
bounded_at (d ∷ es) zero e is h = let same : d ≡ e = cc in subst IsBounded same h.0
bounded_at (d ∷ es) (suc index) e is h = bounded_at es index e is h.1

bounded_set : (es : List Employed) (index : ℕ) (e : Employed) → AreBounded es → IsBounded e
    → AreBounded (slice_set es index e)
bounded_set [] index e h g = tt
bounded_set (d ∷ es) zero e h g = (g, h.1)
bounded_set (d ∷ es) (suc index) e h g = (h.0, bounded_set es index e h.1 g)

bounded_more : (es : List Employed) (e : Employed) → AreBounded es → IsBounded e → AreBounded (es ++ e ∷ [])
bounded_more [] e h g = (g, tt)
bounded_more (d ∷ es) e h g = (h.0, bounded_more es e h.1 g)

by_some : (low : Bool) (index : ℕ) (es : List Employed) (e : Employed)
    → (if low then None else slice_get es index) ≡ Some e → AreBounded es → IsBounded e
by_some true index es e is h = absurd cc
by_some false index es e is h = bounded_at es index e is h

pub bounded_by : (actor : ℕ) (es : List Employed) (e : Employed) → employed_by actor es ≡ Some e → AreBounded es
    → IsBounded e
bounded_by actor es e is h = by_some (nat_le actor MOST_ACTOR) (index_of actor) es e is h

command_bounded : (ran : Ran) (moment actor : ℕ) (e : Employed) (o : Option Command) → IsBounded e
    → AreBounded ran.workers
    → AreBounded (with_command ran moment actor e o).workers
command_bounded ran moment actor e None g h = bounded_set ran.workers (index_of actor) e h g
command_bounded ran moment actor e (Some command) g h =
    bounded_set ran.workers (index_of actor) _ h (record { name = g.name; limit = g.limit })

step_bounded : (ran : Ran) (moment actor : ℕ) (o : Option Employed) → employed_by actor ran.workers ≡ o
    → AreBounded ran.workers
    → AreBounded (with_step ran moment actor o).workers
step_bounded ran moment actor None is h = h
step_bounded ran moment actor (Some e) is h =
    let g = bounded_by actor ran.workers e is h in
    command_bounded ran moment actor (all_called e) (command_at moment (all_called e))
    (record { name = g.name; limit = g.limit })
    h

stop_bounded : (ran : Ran) (actor : ℕ) (o : Option Employed) → employed_by actor ran.workers ≡ o
    → AreBounded ran.workers
    → AreBounded (with_stop ran actor o).workers
stop_bounded ran actor None is h = h
stop_bounded ran actor (Some e) is h =
    let g = bounded_by actor ran.workers e is h in
    bounded_set ran.workers (index_of actor) _ h (record { name = g.name; limit = g.limit })

release_bounded : (ran : Ran) (moment actor : ℕ) (key : ShardRef) (e : Employed) (o : Option Release) → IsBounded e
    → AreBounded ran.workers
    → AreBounded (with_release ran moment actor key e o).workers
release_bounded ran moment actor key e None g h = h
release_bounded ran moment actor key e (Some r) g h =
    bounded_set ran.workers (index_of actor) _ h (record { name = g.name; limit = g.limit })

hand_bounded : (ran : Ran) (moment actor : ℕ) (key : ShardRef) (o : Option Employed) → employed_by actor ran.workers ≡ o
    → AreBounded ran.workers
    → AreBounded (with_handed ran moment actor key o).workers
hand_bounded ran moment actor key None is h = h
hand_bounded ran moment actor key (Some e) is h =
    release_bounded ran moment actor key e (release_by key (Some e)) (bounded_by actor ran.workers e is h) h

pub line_bounded : (ran : Ran) (l : Line) → IsLine l → AreBounded ran.workers → AreBounded (with_line ran l).workers
line_bounded ran (Api moment operation body) is h = h
line_bounded ran (Raw moment actor command long) is h = h
line_bounded ran (Worker moment name kind origin) is h =
    bounded_more ran.workers _ h (record { name = is.1.0.0; limit = (omega arith, omega arith) })
line_bounded ran (Step moment actor) is h = step_bounded ran moment actor (employed_by actor ran.workers) refl h
line_bounded ran (Stop moment actor) is h = stop_bounded ran actor (employed_by actor ran.workers) refl h
line_bounded ran (Hand moment actor key) is h = hand_bounded ran moment actor key (employed_by actor ran.workers) refl h

-- ---- The turns of the workers

turn_lawful : (ran : Ran) (moment actor : ℕ) (e : Employed) (o : Option Command) → moment < 2 ^ 62
    → ((command : Command) → o ≡ Some command → IsLawfulCommand command) → IsHistory ran.history
    → IsHistory (with_command ran moment actor e o).history
turn_lawful ran moment actor e None early lawful past = past
turn_lawful ran moment actor e (Some command) early lawful past = ((early, lawful command refl), past)

step_lawful_by : (ran : Ran) (moment actor : ℕ) (o : Option Employed) → employed_by actor ran.workers ≡ o
    → moment < 2 ^ 62
    → AreBounded ran.workers → IsHistory ran.history → IsHistory (with_step ran moment actor o).history
step_lawful_by ran moment actor None is early h past = past
step_lawful_by ran moment actor (Some e) is early h past =
    let g = bounded_by actor ran.workers e is h in
    turn_lawful ran moment actor (all_called e) (command_at moment (all_called e)) early
    (λ command next. next_lawful _ moment (all_called e) command next (record { name = g.name; limit = g.limit })) past

pub step_lawful : (ran : Ran) (moment actor : ℕ) → moment < 2 ^ 62 → AreBounded ran.workers → IsHistory ran.history
    → IsHistory (with_step ran moment actor (employed_by actor ran.workers)).history
step_lawful ran moment actor early h past =
    step_lawful_by ran moment actor (employed_by actor ran.workers) refl early h past

pub stop_lawful : (ran : Ran) (actor : ℕ) (o : Option Employed) → IsHistory ran.history
    → IsHistory (with_stop ran actor o).history
stop_lawful ran actor None past = past
stop_lawful ran actor (Some e) past = past
