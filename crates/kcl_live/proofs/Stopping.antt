-- A stopped worker gives each handed batch and frees each lease once, so its turns left decrease until it is idle.
use Rattle.std.proofs.Common.{◌≡◌, ℕ, suc, ◌+◌, ◌≤◌, Bool, true, false, List, [], ◌∷◌, length, Option, Some, None}
use Rattle.std.proofs.Common.{Result, Ok, Err, refl, sym, ap, ap₂, subst, ◌∙◌, arith}
use Rattle.std.specs.Prelude.{◌&&◌, cond, if◌then◌else◌, is_some, not}
use Rattle.std.specs.List.{AllByRecursion, filter, find, list_any}
use Rattle.std.proofs.lemmas.Bool.{cond_both, not-true}
use Rattle.kcl_worker.proofs.Outlooks.{none_found_any}
use Rattle.kds_base.proofs.Facts.{is_itself, apart}
use Rattle.kds_defs.specs.declared.command.Command.TheVariants as command
use Rattle.kds_defs.specs.declared.reply.Refusal.{Refusal}
use Rattle.kds_defs.specs.declared.reply.Refusal.TheVariants as refusal
use Rattle.kds_defs.specs.declared.reply.Reply.{Reply}
use Rattle.kcl_defs.specs.declared.consumer.Ask.{Ask}
use Rattle.kcl_defs.specs.declared.consumer.Tenancy.{Tenancy}
use Rattle.kcl_defs.specs.declared.consumer.Why.TheVariants as why
use Rattle.kcl_defs.specs.declared.consumer.WorkerMade.{WorkerMade}
use Rattle.kcl_defs.specs.declared.plans.Held.{Held}
use Rattle.kcl_defs.specs.declared.plans.TenancyId.{TenancyId}
use Rattle.kcl_defs.specs.Consumers.{Answered, Called, Giving, Leaving, Losing, Opening, Over, Stage, Starting}
use Rattle.kcl_defs.specs.Consumers.{after_answer, after_call, after_loss, due_call, over_at, first_has_records}
use Rattle.kcl_defs.specs.Workers.{Finishing, Freeing, Gave_command, Got_answer, Known, Pending, Stopped, WorkerPast}
use Rattle.kcl_defs.specs.Workers.{WorkerState, absorbed, chore_from, consumed, freeing_chore, happens_to}
use Rattle.kcl_defs.specs.Workers.{happens_to_first, id_of, id_of_held, is_due_known, is_giving, is_giving_stage}
use Rattle.kcl_defs.specs.Workers.{is_idle, is_nothing_held, is_over, is_stopping, next_pending, pending_chore}
use Rattle.kcl_defs.specs.Workers.{stage_of_known, same_id, stopping_chore, with_event, without_held, worker_after}
use Rattle.kcl_live.specs.Records.{with_calls}
use Rattle.kcl_live.specs.Steps.{IsLost, IsStopped, turns_left}
use Rattle.kcl_live.proofs.Bounds.{filter_less}

-- Each consumer has lost its lease and isn't over.
abbrev AreLost : List Known → Type 0
AreLost ks = AllByRecursion (λ k. IsLost (stage_of_known k)) ks

-- Each consumer has lost its lease or is over.
abbrev AreLostOrOver : List Known → Type 0
AreLostOrOver ks = AllByRecursion (λ k. is_over k ≡ false → IsLost (stage_of_known k)) ks

-- The number of consumers whose next command is a Give.
abbrev givings : List Known → ℕ
givings ks = length (filter is_giving ks)

settled_lost : (ks : List Known) → AreLostOrOver ks → AreLost (filter (λ k. not (is_over k)) ks)
settled_lost [] all = tt
settled_lost (k ∷ ks) all =
    let rest = filter (λ j. not (is_over j)) ks in
    let lost = settled_lost ks all.1 in
    cond_both (not (is_over k)) (k ∷ rest) rest AreLost (λ stays. (all.0 (not-true (is_over k) stays), lost))
    (λ over. lost)

lost_or_over : (ks : List Known) → AreLost ks → AreLostOrOver ks
lost_or_over [] all = tt
lost_or_over (k ∷ ks) all = ((λ e. all.0), lost_or_over ks all.1)

count_giving : (k : Known) (ks : List Known) → is_giving k ≡ true → givings (k ∷ ks) ≡ suc (givings ks)
count_giving k ks e = ap (λ b. length (cond b (k ∷ filter is_giving ks) (filter is_giving ks))) e

count_quiet : (k : Known) (ks : List Known) → is_giving k ≡ false → givings (k ∷ ks) ≡ givings ks
count_quiet k ks e = ap (λ b. length (cond b (k ∷ filter is_giving ks) (filter is_giving ks))) e

no_less : (b : Bool) (k : Known) (ks : List Known) → is_giving k ≡ b → givings ks ≤ givings (k ∷ ks)
no_less true k ks e = omega (arith, count_giving k ks e)
no_less false k ks e = omega (arith, count_quiet k ks e)

one_more : (b : Bool) (k : Known) (ks js : List Known) → is_giving k ≡ b → givings ks ≤ givings js
    → givings (k ∷ ks) ≤ givings (k ∷ js)
one_more true k ks js e h = omega (arith, h, count_giving k ks e, count_giving k js e)
one_more false k ks js e h = omega (arith, h, count_quiet k ks e, count_quiet k js e)

fewer_by : (c : Bool) (k : Known) (ks js : List Known) → givings ks ≤ givings js
    → givings (cond c (k ∷ ks) ks) ≤ givings (k ∷ js)
fewer_by true k ks js h = one_more (is_giving k) k ks js refl h
fewer_by false k ks js h = omega (arith, h, no_less (is_giving k) k js refl)

part_fewer : (t : Known → Bool) (ks : List Known) → givings (filter t ks) ≤ givings ks
part_fewer t [] = omega arith
part_fewer t (k ∷ ks) = fewer_by (t k) k (filter t ks) ks (part_fewer t ks)

-- ---- A stop

after_loss_lost : (p : Stage) → is_some (over_at (after_loss p)) ≡ false → IsLost (after_loss p)
after_loss_lost Opening h = absurd cc
after_loss_lost Starting h = absurd cc
after_loss_lost (Over why) h = absurd cc
after_loss_lost (Giving reach waiting asked lost) h =
    cond_both (first_has_records waiting) (Giving reach waiting asked true) (Leaving why.Lost) IsLost (λ handed. refl)
    (λ none. tt)
after_loss_lost _ h = tt

losing_lost : (ks : List Known) → AreLostOrOver (happens_to (λ k. true) Losing ks)
losing_lost [] = tt
losing_lost (k ∷ ks) = ((λ e. after_loss_lost (stage_of_known k) e), losing_lost ks)

pub stop_stops : (made : WorkerMade) (past : WorkerPast) → IsStopped (worker_after made (Stopped ∷ past))
stop_stops made past =
    record {
      round = refl;
      lost = settled_lost (happens_to (λ k. true) Losing (worker_after made past).consumers)
          (losing_lost (worker_after made past).consumers);
    }

-- ---- A call

called_lost : (made : Tenancy) (a : Ask) (p : Stage) → IsLost p → is_some (due_call p) ≡ true
    → (is_some (over_at (after_call made a p)) ≡ true) × (is_giving_stage (after_call made a p) ≡ false)
called_lost made a (Leaving why) l d = (refl, refl)
called_lost made a (Giving reach waiting asked lost) l d = absurd cc
called_lost made a _ l d = absurd l

calling_lost : (a : Ask) (ks : List Known) → AreLost ks → AreLostOrOver (happens_to_first is_due_known (Called a) ks)
calling_lost a [] all = tt
calling_lost a (k ∷ ks) all =
    let called = with_event (Called a) k in
    let leaves : is_due_known k ≡ true → is_over called ≡ true =
    λ due. (called_lost k.made a (stage_of_known k) all.0 due).0 in
    cond_both (is_due_known k) (called ∷ ks) (k ∷ happens_to_first is_due_known (Called a) ks) AreLostOrOver
    (λ due. ((λ over. absurd (apart (is_over called) (leaves due) over)), lost_or_over ks all.1))
    (λ quiet. ((λ over. all.0), calling_lost a ks all.1))

calling_fewer : (a : Ask) (ks : List Known) → AreLost ks
    → givings (happens_to_first is_due_known (Called a) ks) ≤ givings ks
calling_fewer a [] all = omega arith
calling_fewer a (k ∷ ks) all = one (is_due_known k) refl (calling_fewer a ks all.1)
  where
    one : (b : Bool) → is_due_known k ≡ b → givings (happens_to_first is_due_known (Called a) ks) ≤ givings ks
        → givings (if b then with_event (Called a) k ∷ ks else k ∷ happens_to_first is_due_known (Called a) ks)
        ≤ givings (k ∷ ks)
    one true e rest = omega (
      arith,
      count_quiet (with_event (Called a) k) ks (called_lost k.made a (stage_of_known k) all.0 e).1,
      no_less (is_giving k) k ks refl,
    )
    one false e rest = one_more (is_giving k) k (happens_to_first is_due_known (Called a) ks) ks refl rest

-- Processor calls keep a worker stopped, and add no turns left.
pub calls_stopped : (made : WorkerMade) (asked : List Ask) (past : WorkerPast) → IsStopped (worker_after made past)
    → IsStopped (worker_after made (with_calls asked past))
    × (turns_left (worker_after made (with_calls asked past)) ≤ turns_left (worker_after made past))
calls_stopped made [] past s = (s, omega arith)
calls_stopped made (a ∷ asked) past s =
    let r = calls_stopped made asked past s in
    let ks = (worker_after made (with_calls asked past)).consumers in
    let called = happens_to_first is_due_known (Called a) ks in (
      record { round = r.0.round; lost = settled_lost called (calling_lost a ks r.0.lost) },
      omega (arith, r.1, calling_fewer a ks r.0.lost, part_fewer (λ k. not (is_over k)) called),
    )

-- ---- A turn

answered_lost : (made : Tenancy) (a : Result Reply Refusal) (p : Stage) → IsLost p → is_some (due_call p) ≡ false
    → IsLost (after_answer made a p) × (is_giving_stage (after_answer made a p) ≡ false) × (is_giving_stage p ≡ true)
answered_lost made (Ok reply) (Giving reach [] asked true) l d = (tt, refl, refl)
answered_lost made (Ok reply) (Giving reach (f ∷ waiting) asked true) l d = (tt, refl, refl)
answered_lost made (Err r) (Giving reach waiting asked true) l d = (tt, refl, refl)
answered_lost made a (Giving reach waiting asked false) l d = absurd cc
answered_lost made a (Leaving why) l d = absurd cc
answered_lost made a _ l d = absurd l

first_quiet : (b : Bool) (k : Known) (rest : Option Known) → cond b (Some k) rest ≡ None → b ≡ false
first_quiet true k rest e = absurd cc
first_quiet false k rest e = refl

first_of : (k j : Known) (rest : Option Known) (b : Bool) → b ≡ true → cond b (Some j) rest ≡ Some k → j ≡ k
first_of k j rest true e h = cc
first_of k j rest false e h = absurd cc

same_id_self : (id : TenancyId) → same_id id id ≡ true
same_id_self id = ap₂ (λ a b. a && b) (ap₂ (λ a b. a && b) (is_itself id.key.stream) (is_itself id.key.shard))
    (is_itself id.tenure)

giving_first : (a : Result Reply Refusal) (ks : List Known) (k : Known) → AreLost ks → find is_due_known ks ≡ None
    → find is_giving ks ≡ Some k
    → AreLostOrOver (consumed (id_of k) a ks) × (givings (consumed (id_of k) a ks) + 1 ≡ givings ks)
giving_first a [] k all none found = absurd cc
giving_first a (j ∷ js) k all none found =
    let quiet = first_quiet (is_due_known j) j (find is_due_known js) none in
    let l = answered_lost j.made a (stage_of_known j) all.0 quiet in
    let same : j ≡ k = first_of k j (find is_giving js) (is_giving j) l.2 found in
    let own : same_id (id_of j) (id_of k) ≡ true = ap (λ x. same_id (id_of j) (id_of x)) (sym same)
    ∙ same_id_self (id_of j) in
    let now : consumed (id_of k) a (j ∷ js) ≡ with_event (Answered a) j ∷ js =
    ap (λ b. if b then with_event (Answered a) j ∷ js else j
    ∷ happens_to_first (λ i. same_id (id_of i) (id_of k)) (Answered a) js) own in (
      subst AreLostOrOver (sym now) ((λ over. l.0), lost_or_over js all.1),
      omega (arith, ap givings now, count_quiet (with_event (Answered a) j) js l.1, count_giving j js l.2),
    )

-- From `s` to `t` a command was answered; the worker is stopped and has fewer turns left.
record Leaves (s t : WorkerState) : Type 0 where
  stopped : IsStopped t
  fewer : turns_left t + 1 ≤ turns_left s

finished : (made : WorkerMade) (moment : ℕ) (a : Result Reply Refusal) (s : WorkerState) (k : Known) → IsStopped s
    → find is_due_known s.consumers ≡ None → find is_giving s.consumers ≡ Some k → (o : Option Pending)
    → o ≡ next_pending made moment s
    → Leaves s (absorbed made moment a (record s { waiting = o }) o)
finished made moment a s k stopped none found o is =
    let p : Pending = record { chore = Finishing (id_of k); what = command.Give k.made.tenure } in
    let next : o ≡ Some p =
    is ∙ ap (λ r. pending_chore made s (chore_from made.settings.failover moment s r)) stopped.round
    ∙ ap (λ f. pending_chore made s (stopping_chore s f)) found in
    let g = giving_first a s.consumers k stopped.lost none found in
    subst (λ q. Leaves s (absorbed made moment a (record s { waiting = q }) q)) (sym next) (record {
      stopped = record { round = stopped.round; lost = settled_lost (consumed (id_of k) a s.consumers) g.0 };
      fewer = omega (arith, g.1, part_fewer (λ j. not (is_over j)) (consumed (id_of k) a s.consumers));
    })

freed : (made : WorkerMade) (moment : ℕ) (a : Result Reply Refusal) (s : WorkerState) (h : Held) (hs : List Held)
    → IsStopped s → s.held ≡ h ∷ hs → find is_giving s.consumers ≡ None → (o : Option Pending)
    → o ≡ next_pending made moment s
    → Leaves s (absorbed made moment a (record s { waiting = o }) o)
freed made moment a s h hs stopped held none o is =
    let p : Pending = record { chore = Freeing h; what = command.Free h.tenure h.counter } in
    let next : o ≡ Some p =
    is ∙ ap (λ r. pending_chore made s (chore_from made.settings.failover moment s r)) stopped.round
    ∙ ap (λ f. pending_chore made s (stopping_chore s f)) none
    ∙ ap (λ l. pending_chore made s (freeing_chore l)) held in
    let id = id_of_held h in
    let gone : without_held id (h ∷ hs) ≡ without_held id hs =
    ap (λ b. cond (not b) (h ∷ without_held id hs) (without_held id hs)) (same_id_self id) in
    subst (λ q. Leaves s (absorbed made moment a (record s { waiting = q }) q)) (sym next) (record {
      stopped = record {
        round = stopped.round;
        lost = settled_lost s.consumers (lost_or_over s.consumers stopped.lost);
      };
      fewer = omega (
        arith,
        ap length held,
        ap (λ l. length (without_held id l)) held,
        ap length gone,
        filter_less (λ g. not (same_id (id_of_held g) id)) hs,
        part_fewer (λ j. not (is_over j)) s.consumers,
      );
    })

idle_then : (s : WorkerState) → IsStopped s → find is_due_known s.consumers ≡ None → find is_giving s.consumers ≡ None
    → s.held ≡ [] → is_idle s ≡ true
idle_then s stopped due giving held =
    ap (λ r. is_stopping r && not (list_any is_due_known s.consumers) && not (list_any is_giving s.consumers)
    && is_nothing_held s.held) stopped.round
    ∙ ap (λ b. not b && not (list_any is_giving s.consumers) && is_nothing_held s.held)
    (none_found_any is_due_known s.consumers due)
    ∙ ap (λ b. not b && is_nothing_held s.held) (none_found_any is_giving s.consumers giving)
    ∙ ap is_nothing_held held

turned_by : (made : WorkerMade) (moment : ℕ) (a : Result Reply Refusal) (s : WorkerState) (f : Option Known)
    (held : List Held) → IsStopped s → find is_due_known s.consumers ≡ None → find is_giving s.consumers ≡ f
    → s.held ≡ held → is_idle s ≡ false
    → Leaves s (absorbed made moment a (record s { waiting = next_pending made moment s }) (next_pending made moment s))
turned_by made moment a s (Some k) held stopped due giving is busy =
    finished made moment a s k stopped due giving (next_pending made moment s) refl
turned_by made moment a s None [] stopped due giving is busy =
    absurd (apart (is_idle s) (idle_then s stopped due giving is) busy)
turned_by made moment a s None (h ∷ hs) stopped due giving is busy =
    freed made moment a s h hs stopped is giving (next_pending made moment s) refl

-- A turn keeps a worker stopped, and leaves it at least one turn less.
pub turn_stopped : (made : WorkerMade) (moment : ℕ) (a : Result Reply Refusal) (past : WorkerPast)
    → IsStopped (worker_after made past) → find is_due_known (worker_after made past).consumers ≡ None
    → is_idle (worker_after made past) ≡ false
    → IsStopped (worker_after made (Got_answer moment a ∷ (Gave_command moment ∷ past)))
    × (turns_left (worker_after made (Got_answer moment a ∷ (Gave_command moment ∷ past))) + 1
    ≤ turns_left (worker_after made past))
turn_stopped made moment a past stopped due busy =
    let s = worker_after made past in
    let l = turned_by made moment a s (find is_giving s.consumers) s.held stopped due refl refl busy in
    (l.stopped, l.fewer)

pub some_left : (made : WorkerMade) (past : WorkerPast) → IsStopped (worker_after made past)
    → find is_due_known (worker_after made past).consumers ≡ None → is_idle (worker_after made past) ≡ false
    → 1 ≤ turns_left (worker_after made past)
some_left made past stopped due busy =
    omega (arith, (turn_stopped made 0 (Err refusal.ShardGone) past stopped due busy).1)

pub filter_fewer : (ks : List Known) → length (filter is_giving ks) ≤ length ks
filter_fewer ks = filter_less is_giving ks
