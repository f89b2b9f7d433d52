-- In every schedule's run the laws for one worker hold for each worker and its hand-offs.
use Rattle.std.proofs.Common.{◌≡◌, ℕ, zero, suc, pred, ◌<◌, ◌≤◌, Bool, true, false, List, [], ◌∷◌, ◌++◌, length}
use Rattle.std.proofs.Common.{Option, Some, None, Result, Ok, Err, refl, sym, ap, subst, ◌∙◌, arith, ◌⊎◌, inl, inr}
use Rattle.std.specs.Prelude.{◌==◌, if◌then◌else◌, nat_le, option_map, slice_get, slice_set}
use Rattle.std.specs.List.{AllByRecursion}
use Rattle.std.proofs.lemmas.Bool.Decides.{nat_tests}
use Rattle.std.proofs.lemmas.List.{length-set, length_push}
use Rattle.std.proofs.lemmas.Option.{slice_get_within}
use Rattle.kds_base.specs.declared.lease_key.ShardRef.{ShardRef}
use Rattle.kds_base.proofs.Facts.{is_itself}
use Rattle.kds_defs.specs.declared.command.Command.{Command}
use Rattle.kds_defs.specs.declared.command.Origin.{Origin}
use Rattle.kds_defs.specs.declared.command.Turn.{Turn}
use Rattle.kds_defs.specs.declared.limits.TheConstants.{MOST_ACTOR}
use Rattle.kds_defs.specs.declared.reply.Refusal.{Refusal}
use Rattle.kds_defs.specs.declared.reply.Reply.{Reply}
use Rattle.kds_defs.specs.declared.reply.Reply.TheVariants as reply
use Rattle.kds_defs.specs.Histories.{answer}
use Rattle.kds_defs.specs.Lawful.{IsHistory}
use Rattle.kds_defs.specs.Requests.{request_turn}
use Rattle.kds_json_members.specs.declared.problem.Fault.{Fault}
use Rattle.kds_json.specs.Asked.{asked}
use Rattle.kcl_defs.specs.declared.consumer.WorkerMade.{WorkerMade}
use Rattle.kcl_defs.specs.Lives.{deals_of}
use Rattle.kcl_hand.specs.Joints.{AreAllServed as AreServed, AreOrderly, AreToldIn, JointPast, Of_worker, hand_of}
use Rattle.kcl_hand.specs.Joints.{hands_after, joint_deals, worker_in, worker_past}
use Rattle.kcl_hand.specs.Runs.{hand_run, turn_of, with_hand}
use Rattle.kcl_hand.specs.Twice.{IsHandedOffIfFreed, IsNeverReadAgain}
use Rattle.kcl_defs.specs.Workers.{Chore, Gave_command, Known, Made_call, Pending, Renewing, Release, Surveying, Taking}
use Rattle.kcl_defs.specs.Workers.{WorkerState}
use Rattle.kcl_defs.specs.Workers.{absorbed, after_chore}
use Rattle.kcl_defs.specs.Workers.{is_due_known, is_idle, next_pending, stage_of_known, released, with_deal}
use Rattle.kcl_defs.specs.Workers.{worker_after}
use Rattle.kcl_defs.proofs.StepLemmas.{others_turn}
use Rattle.kcl_defs.proofs.WorkerLemmas.{survey_none, take_none, renewal_none}
use Rattle.kcl_proc.specs.declared.stock.Kind.{Kind}
use Rattle.kcl_script.specs.declared.line.Line.{Line}
use Rattle.kcl_script.specs.declared.line.Line.TheVariants.{Api, Hand, Raw, Step, Stop, Worker}
use Rattle.kcl_script.specs.Line.{IsLine}
use Rattle.kcl_sim.specs.Output.{Ran, fresh, raw_turn, requested, with_command, with_handed, with_line, with_release}
use Rattle.kcl_sim.specs.Output.{with_schedule, with_step, with_stop}
use Rattle.kcl_sim.specs.Serving.{AreAllServed, AreHandedOff, AreNeverReadAgain}
use Rattle.kcl_sim.specs.Workers.{Employed, actor_at, all_called, answered, ask_in, command_at, employed_by, hired}
use Rattle.kcl_sim.specs.Workers.{index_of, release_by, state_of, stopped, with_calls}
use Rattle.kcl_sim.proofs.HandTelling.{of_another_run, released_free, run_tells, worker_past_hand}

-- The actor's turns in `h` are the answered commands of the worker's orderly joint trace, and none waits.
record IsTold (h : List Turn) (actor : ℕ) (e : Employed) : Type 0 where
  orderly : AreOrderly e.made e.past
  told : AreToldIn actor h e.made e.past
  free : (state_of e).waiting ≡ None

-- `IsTold` holds for each worker, and actors of workers still to be started have no turn.
record AreTold (ran : Ran) : Type 0 where
  each : (index : ℕ) (e : Employed) → slice_get ran.workers index ≡ Some e → IsTold ran.history (actor_at index) e
  later : (index : ℕ) → length ran.workers ≤ index → deals_of (actor_at index) ran.history ≡ []

-- ---- Events of a worker that aren't turns

-- `later` is an orderly trace with the answered commands of `past`, and no command waits.
record Follows (made : WorkerMade) (past later : JointPast) : Type 0 where
  orderly : AreOrderly made later
  deals : joint_deals made later ≡ joint_deals made past
  free : (worker_in made later).waiting ≡ None

either_follows : (b : Bool) (made : WorkerMade) (past p q : JointPast) → Follows made past p → Follows made past q
    → Follows made past (if b then p else q)
either_follows true made past p q h g = h
either_follows false made past p q h g = g

calls_follow : (made : WorkerMade) (kind : Kind) (ks : List Known) (past : JointPast) → AreOrderly made past
    → (worker_in made past).waiting ≡ None
    → Follows made past (with_calls kind ks past)
calls_follow made kind [] past orderly free = record { orderly = orderly; deals = refl; free = free }
calls_follow made kind (k ∷ ks) past orderly free =
    let due = calls_follow made kind ks (Of_worker (Made_call (ask_in kind (stage_of_known k))) ∷ past) (
      free,
      orderly,
    ) free in
    either_follows (is_due_known k) made past _ _
    (record { orderly = due.orderly; deals = due.deals; free = due.free })
    (calls_follow made kind ks past orderly free)

told_called : (h : List Turn) (actor : ℕ) (e : Employed) → IsTold h actor e → IsTold h actor (all_called e)
told_called h actor e t =
    let f = calls_follow e.made e.kind (state_of e).consumers e.past t.orderly t.free in
    record { orderly = f.orderly; told = t.told ∙ sym f.deals; free = f.free }

told_stopped : (h : List Turn) (actor : ℕ) (e : Employed) → IsTold h actor e → IsTold h actor (stopped e)
told_stopped h actor e t = record { orderly = (t.free, t.orderly); told = t.told; free = t.free }

-- ---- The turn of a worker

chore_free : (made : WorkerMade) (now : ℕ) (a : Result Reply Refusal) (chore : Chore) (w : WorkerState)
    → w.waiting ≡ None → (after_chore made now a chore w).waiting ≡ None
chore_free made now a Surveying w h = survey_none made now a w h
chore_free made now a (Taking step takes) w h = take_none made now step a _ h
chore_free made now a (Renewing held) w h = renewal_none now held a _ h
chore_free made now a _ w h = h

absorbed_free : (made : WorkerMade) (now : ℕ) (a : Result Reply Refusal) (w : WorkerState) (p : Pending)
    → w.waiting ≡ Some p → (absorbed made now a w w.waiting).waiting ≡ None
absorbed_free made now a w p is =
    ap (λ o. (absorbed made now a w o).waiting) is ∙ chore_free made now a p.chore (record w { waiting = None }) refl

pending_by : (b : Bool) (o : Option Pending) (command : Command) → (if b then None else option_map (λ p. p.what) o)
    ≡ Some command → (p : Pending) × (o ≡ Some p) × (p.what ≡ command)
pending_by true o command h = absurd cc
pending_by false None command h = absurd cc
pending_by false (Some p) command h = (p, refl, cc)

told_answered : (h : List Turn) (moment actor : ℕ) (e : Employed) (command : Command)
    → command_at moment e ≡ Some command
    → IsTold h actor e
    → IsTold (raw_turn moment actor command ∷ h) actor (answered moment (answer h (raw_turn moment actor command)) e)
told_answered h moment actor e command next t =
    let turn = raw_turn moment actor command in
    let a = answer h turn in
    let p = pending_by (is_idle (state_of e)) (next_pending e.made moment (state_of e)) command next in
    let own : deals_of actor (turn ∷ h) ≡ record { what = command; answer = a } ∷ deals_of actor h =
    ap (λ b. if b then record { what = command; answer = a } ∷ deals_of actor h else deals_of actor h)
    (is_itself actor) in
    let dealt : joint_deals e.made (answered moment a e).past ≡ record { what = command; answer = a }
    ∷ joint_deals e.made e.past =
    ap (λ o. with_deal o a (joint_deals e.made e.past)) p.1
    ∙ ap (λ c. record { what = c; answer = a } ∷ joint_deals e.made e.past) p.2 in
    record {
      orderly = (tt, (t.free, t.orderly));
      told = own ∙ ap (λ deals. record { what = command; answer = a } ∷ deals) t.told ∙ sym dealt;
      free = absorbed_free e.made moment a (worker_after e.made (Gave_command moment ∷ worker_past e.past)) p.0 p.1;
    }

-- ---- A hand-off of what a worker releases

told_handed : (h : List Turn) (moment actor : ℕ) (key : ShardRef) (e : Employed) (r : Release)
    → released key (state_of e) ≡ Some r → IsTold h actor e
    → IsTold (hand_run moment actor h (hand_of r [])).history actor
    (record e { past = with_hand key (hand_run moment actor h (hand_of r [])).hand.since e.made e.past })
told_handed h moment actor key e r which t =
    let events = (hand_run moment actor h (hand_of r [])).hand.since in
    let k = run_tells moment actor key e.made e.past r which h
    (record { orderly = (t.free, t.orderly); told = t.told }) in
    record {
      orderly = k.orderly;
      told = k.told;
      free = ap (λ p. (worker_after e.made p).waiting) (worker_past_hand key events e.made e.past)
          ∙ released_free (released key (state_of e)) (state_of e)
          t.free;
    }

-- ---- A turn of another actor

told_on : (actor : ℕ) (turn : Turn) (h : List Turn) (e : Employed) → (turn.by == actor) ≡ false → IsTold h actor e
    → IsTold (turn ∷ h) actor e
told_on actor turn h e other t =
    record { orderly = t.orderly; told = others_turn actor turn h other ∙ t.told; free = t.free }

below : (actor index : ℕ) → actor ≤ MOST_ACTOR → (actor == actor_at index) ≡ false
below actor index low = grind (arith, nat_tests)

apart : (p q : ℕ) → (p ≡ q → ⊥) → (actor_at p == actor_at q) ≡ false
apart p q h = by_test (actor_at p == actor_at q) refl
  where
    by_test : (b : Bool) → (actor_at p == actor_at q) ≡ b → (actor_at p == actor_at q) ≡ false
    by_test false is = is
    by_test true is = absurd (h (grind (arith, nat_tests)))

outer : (ran : Ran) (turn : Turn) → turn.by ≤ MOST_ACTOR → AreTold ran
    → AreTold (record ran { history = turn ∷ ran.history })
outer ran turn low t = record {
  each = λ index e is. told_on (actor_at index) turn ran.history e (below turn.by index low) (t.each index e is);
  later = λ index past. others_turn (actor_at index) turn ran.history (below turn.by index low) ∙ t.later index past;
}

-- ---- One worker changes

got_with : (es : List Employed) (p q : ℕ) (x e : Employed) → slice_get (slice_set es p x) q ≡ Some e
    → ((p ≡ q) × (x ≡ e)) ⊎ ((p ≡ q → ⊥) × (slice_get es q ≡ Some e))
got_with [] p q x e is = absurd cc
got_with (d ∷ es) zero zero x e is = inl (refl, cc)
got_with (d ∷ es) zero (suc q) x e is = inr ((λ h. absurd cc), is)
got_with (d ∷ es) (suc p) zero x e is = inr ((λ h. absurd cc), is)
got_with (d ∷ es) (suc p) (suc q) x e is = cases (got_with es p q x e is)
  where
    cases : ((p ≡ q) × (x ≡ e)) ⊎ ((p ≡ q → ⊥) × (slice_get es q ≡ Some e)) → ((suc p ≡ suc q) × (x ≡ e))
        ⊎ ((suc p ≡ suc q → ⊥) × (slice_get es q ≡ Some e))
    cases (inl h) = inl (ap suc h.0, h.1)
    cases (inr h) = inr ((λ same. h.0 (ap pred same)), h.1)

changed : (h : List Turn) (es : List Employed) (p : ℕ) (x : Employed) → IsTold h (actor_at p) x
    → ((q : ℕ) (e : Employed) → (p ≡ q → ⊥) → slice_get es q ≡ Some e → IsTold h (actor_at q) e)
    → (index : ℕ) (e : Employed) → slice_get (slice_set es p x) index ≡ Some e → IsTold h (actor_at index) e
changed h es p x own others index e is = cases (got_with es p index x e is)
  where
    cases : ((p ≡ index) × (x ≡ e)) ⊎ ((p ≡ index → ⊥) × (slice_get es index ≡ Some e)) → IsTold h (actor_at index) e
    cases (inl same) = subst (IsTold h (actor_at index)) same.1 (subst (λ n. IsTold h (actor_at n) x) same.0 own)
    cases (inr other) = others index e other.0 other.1

kept : (ran : Ran) (p : ℕ) (x : Employed) → AreTold ran → IsTold ran.history (actor_at p) x
    → AreTold (record ran { workers = slice_set ran.workers p x })
kept ran p x t own = record {
  each = changed ran.history ran.workers p x own (λ q e other is. t.each q e is);
  later = λ index past. t.later index (omega (arith, past, length-set ran.workers p x));
}

turned : (ran : Ran) (turn : Turn) (p : ℕ) (x : Employed) → turn.by ≡ actor_at p → p < length ran.workers → AreTold ran
    → IsTold (turn ∷ ran.history) (actor_at p) x
    → AreTold (record { history = turn ∷ ran.history; workers = slice_set ran.workers p x })
turned ran turn p x is_by lt t own = record {
  each = changed (turn ∷ ran.history) ran.workers p x own (λ q e other is.
      told_on (actor_at q) turn ran.history e (differs q other) (t.each q e is));
  later = λ index past.
      let beyond : length ran.workers ≤ index = omega (arith, past, length-set ran.workers p x) in
      others_turn (actor_at index) turn ran.history (differs index (λ same. absurd (omega arith)))
      ∙ t.later index beyond;
}
  where
    differs : (q : ℕ) → (p ≡ q → ⊥) → (turn.by == actor_at q) ≡ false
    differs q other = ap (λ n. n == actor_at q) is_by ∙ apart p q other

handed : (ran : Ran) (h : List Turn) (p : ℕ) (x : Employed) → p < length ran.workers → AreTold ran
    → IsTold h (actor_at p) x
    → ((q : ℕ) → (p ≡ q → ⊥) → deals_of (actor_at q) h ≡ deals_of (actor_at q) ran.history)
    → AreTold (record { history = h; workers = slice_set ran.workers p x })
handed ran h p x lt t own others = record {
  each = changed h ran.workers p x own (λ q e other is.
      let k = t.each q e is in
      record { orderly = k.orderly; told = others q other ∙ k.told; free = k.free });
  later = λ index past.
      let beyond : length ran.workers ≤ index = omega (arith, past, length-set ran.workers p x) in
      others index (λ same. absurd (omega arith)) ∙ t.later index beyond;
}

-- ---- Lines

placed_by : (low : Bool) (actor : ℕ) (es : List Employed) (e : Employed) → nat_le actor MOST_ACTOR ≡ low
    → (if low then None else slice_get es (index_of actor)) ≡ Some e
    → (actor ≡ actor_at (index_of actor)) × (slice_get es (index_of actor) ≡ Some e)
placed_by true actor es e l is = absurd cc
placed_by false actor es e l is = (high actor l, is)
  where
    high : (n : ℕ) → nat_le n MOST_ACTOR ≡ false → n ≡ actor_at (index_of n)
    high n h = grind (arith, nat_tests)

placed : (actor : ℕ) (es : List Employed) (e : Employed) → employed_by actor es ≡ Some e
    → (actor ≡ actor_at (index_of actor))
    × (slice_get es (index_of actor) ≡ Some e)
placed actor es e is = placed_by (nat_le actor MOST_ACTOR) actor es e refl is

command_told : (ran : Ran) (moment actor : ℕ) (e : Employed) (o : Option Command) → command_at moment e ≡ o
    → actor ≡ actor_at (index_of actor) → index_of actor < length ran.workers → AreTold ran
    → IsTold ran.history actor e → AreTold (with_command ran moment actor e o)
command_told ran moment actor e None next own lt t is_told =
    kept ran (index_of actor) e t (subst (λ n. IsTold ran.history n e) own is_told)
command_told ran moment actor e (Some command) next own lt t is_told =
    let turn = raw_turn moment actor command in
    turned ran turn (index_of actor) (answered moment (answer ran.history turn) e) own lt t
    (subst (λ n. IsTold (turn ∷ ran.history) n (answered moment (answer ran.history turn) e)) own
    (told_answered ran.history moment actor e command next is_told))

step_told : (ran : Ran) (moment actor : ℕ) (o : Option Employed) → employed_by actor ran.workers ≡ o → AreTold ran
    → AreTold (with_step ran moment actor o)
step_told ran moment actor None is t = t
step_told ran moment actor (Some e) is t =
    let p = placed actor ran.workers e is in
    let is_told = subst (λ n. IsTold ran.history n e) (sym p.0) (t.each (index_of actor) e p.1) in
    command_told ran moment actor (all_called e) (command_at moment (all_called e)) refl p.0
    (slice_get_within ran.workers (index_of actor) e p.1) t (told_called ran.history actor e is_told)

stop_told : (ran : Ran) (actor : ℕ) (o : Option Employed) → employed_by actor ran.workers ≡ o → AreTold ran
    → AreTold (with_stop ran actor o)
stop_told ran actor None is t = t
stop_told ran actor (Some e) is t =
    let p = placed actor ran.workers e is in
    kept ran (index_of actor) (stopped e) t
    (told_stopped ran.history (actor_at (index_of actor)) e (t.each (index_of actor) e p.1))

release_told : (ran : Ran) (moment actor : ℕ) (key : ShardRef) (e : Employed) (o : Option Release)
    → release_by key (Some e) ≡ o → actor ≡ actor_at (index_of actor)
    → index_of actor < length ran.workers → AreTold ran
    → IsTold ran.history actor e → AreTold (with_release ran moment actor key e o)
release_told ran moment actor key e None which own lt t is_told = t
release_told ran moment actor key e (Some r) which own lt t is_told =
    let run = hand_run moment actor ran.history (hand_of r []) in
    let x : Employed = record e { past = with_hand key run.hand.since e.made e.past } in
    handed ran run.history (index_of actor) x lt t
    (subst (λ n. IsTold run.history n x) own (told_handed ran.history moment actor key e r which is_told))
    (λ q other. of_another_run 3 moment actor (actor_at q)
    (λ h command. others_turn (actor_at q) (turn_of moment actor command) h
    (ap (λ n. n == actor_at q) own ∙ apart (index_of actor) q other)) ran.history (hand_of r []))

hand_told : (ran : Ran) (moment actor : ℕ) (key : ShardRef) (o : Option Employed) → employed_by actor ran.workers ≡ o
    → AreTold ran
    → AreTold (with_handed ran moment actor key o)
hand_told ran moment actor key None is t = t
hand_told ran moment actor key (Some e) is t =
    let p = placed actor ran.workers e is in
    let is_told = subst (λ n. IsTold ran.history n e) (sym p.0) (t.each (index_of actor) e p.1) in
    release_told ran moment actor key e (release_by key (Some e)) refl p.0
    (slice_get_within ran.workers (index_of actor) e p.1)
    t is_told

got_more : (es : List Employed) (x : Employed) (q : ℕ) (e : Employed) → slice_get (es ++ x ∷ []) q ≡ Some e
    → ((q ≡ length es) × (x ≡ e)) ⊎ (slice_get es q ≡ Some e)
got_more [] x zero e is = inl (refl, cc)
got_more [] x (suc q) e is = absurd cc
got_more (d ∷ es) x zero e is = inr is
got_more (d ∷ es) x (suc q) e is = cases (got_more es x q e is)
  where
    cases : ((q ≡ length es) × (x ≡ e)) ⊎ (slice_get es q ≡ Some e) → ((suc q ≡ suc (length es)) × (x ≡ e))
        ⊎ (slice_get es q ≡ Some e)
    cases (inl h) = inl (ap suc h.0, h.1)
    cases (inr h) = inr h

hired_told : (ran : Ran) (name : ℕ) (kind : Kind) (origin : Origin) → AreTold ran
    → AreTold (record ran { workers = ran.workers ++ hired name kind origin ∷ [] })
hired_told ran name kind origin t = record {
  each = λ index e is. cases index e (got_more ran.workers (hired name kind origin) index e is);
  later = λ index past. t.later index (omega (arith, past, length_push ran.workers (hired name kind origin)));
}
  where
    none : (index : ℕ) → index ≡ length ran.workers → IsTold ran.history (actor_at index) (hired name kind origin)
    none index is = record { orderly = tt; told = t.later index (omega arith); free = refl }

    cases : (index : ℕ) (e : Employed) → ((index ≡ length ran.workers) × (hired name kind origin ≡ e))
        ⊎ (slice_get ran.workers index ≡ Some e) → IsTold ran.history (actor_at index) e
    cases index e (inl h) = subst (IsTold ran.history (actor_at index)) h.1 (none index h.0)
    cases index e (inr h) = t.each index e h

request_told : (ran : Ran) (moment : ℕ) (r : Result Command Fault) → AreTold ran
    → AreTold (record ran { history = requested ran.history moment r })
request_told ran moment (Ok command) t = outer ran (request_turn moment command) (omega arith) t
request_told ran moment (Err f) t = t

line_told : (ran : Ran) (l : Line) → IsLine l → AreTold ran → AreTold (with_line ran l)
line_told ran (Api moment operation body) is t = request_told ran moment (asked operation body) t
line_told ran (Raw moment actor command long) is t = outer ran (raw_turn moment actor command) is.1.0.1 t
line_told ran (Worker moment name kind origin) is t = hired_told ran name kind origin t
line_told ran (Step moment actor) is t = step_told ran moment actor (employed_by actor ran.workers) refl t
line_told ran (Stop moment actor) is t = stop_told ran actor (employed_by actor ran.workers) refl t
line_told ran (Hand moment actor key) is t = hand_told ran moment actor key (employed_by actor ran.workers) refl t

schedule_told : (ran : Ran) (ls : List Line) → AllByRecursion IsLine ls → AreTold ran → AreTold (with_schedule ran ls)
schedule_told ran [] are t = t
schedule_told ran (l ∷ ls) are t = schedule_told (with_line ran l) ls are.1 (line_told ran l are.0 t)

all_told : (ls : List Line) → AllByRecursion IsLine ls → AreTold (with_schedule fresh ls)
all_told ls are =
    let none : AreTold fresh =
    record { each = λ index e is. absurd (nothing index e is); later = λ index past. refl } in
    schedule_told fresh ls are none
  where
    nothing : (index : ℕ) (e : Employed) → slice_get fresh.workers index ≡ Some e → ⊥
    nothing index e is = absurd cc

-- Assumed law: if the actor's turns are an orderly joint trace's commands, processors are called for given reads.
abbrev pub Serves : Type 0
Serves = (actor : ℕ) (h : List Turn) (made : WorkerMade) (past : JointPast) → AreOrderly made past
    → AreToldIn actor h made past → AreServed actor h made past

pub all_served : Serves → (ls : List Line) → AllByRecursion IsLine ls → AreAllServed (with_schedule fresh ls)
all_served serves ls are =
    let t = all_told ls are in
    λ index e is. serves (actor_at index) (with_schedule fresh ls).history e.made e.past (t.each index e is).orderly
    (t.each index e is).told

-- Assumed law: a hand-off that freed its row gave all it handed its processor, at or below the row's checkpoint.
abbrev pub Hands : Type 0
Hands = (actor : ℕ) (h : List Turn) (made : WorkerMade) (past : JointPast) → IsHistory h → AreOrderly made past
    → AreToldIn actor h made past
    → AllByRecursion (IsHandedOffIfFreed actor h) (hands_after made past)

pub all_handed : Hands → (ls : List Line) → AllByRecursion IsLine ls → IsHistory (with_schedule fresh ls).history
    → AreHandedOff (with_schedule fresh ls)
all_handed hands ls are lawful =
    let t = all_told ls are in
    λ index e is. hands (actor_at index) (with_schedule fresh ls).history e.made e.past lawful
    (t.each index e is).orderly (t.each index e is).told

-- Assumed law: a tenure begun right after `old` reads nothing given in a hand-off of its key that freed its row.
abbrev pub ReadsOnce : Type 0
ReadsOnce = (actor : ℕ) (h old : List Turn) (made : WorkerMade) (past : JointPast) → IsHistory h → IsHistory old
    → AreOrderly made past
    → AreToldIn actor old made past → AllByRecursion (IsNeverReadAgain actor h old) (hands_after made past)

pub all_read_once : ReadsOnce → (h : List Turn) (ls : List Line) → AllByRecursion IsLine ls → IsHistory h
    → IsHistory (with_schedule fresh ls).history
    → AreNeverReadAgain h (with_schedule fresh ls)
all_read_once once h ls are whole first =
    let t = all_told ls are in
    λ index e is. once (actor_at index) h (with_schedule fresh ls).history e.made e.past whole first
    (t.each index e is).orderly (t.each index e is).told
