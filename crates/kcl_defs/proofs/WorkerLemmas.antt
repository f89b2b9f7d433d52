-- Processors of a worker's consumers are called for the given reads of their tenures, by induction over events.
use Rattle.std.proofs.Common.{◌≡◌, ℕ, ◌+◌, ◌≤◌, Bool, true, false, List, [], ◌∷◌, Option, Some, None, Ok, Err}
use Rattle.std.proofs.Common.{refl, sym, subst, arith}
use Rattle.std.specs.Prelude.{◌==◌, not, if◌then◌else◌, Result}
use Rattle.std.specs.List.{AllByRecursion, filter}
use Rattle.kds_base.proofs.Facts.{all_weaker}
use Rattle.kds_defs.specs.declared.command.Command.{Command}
use Rattle.kds_defs.specs.declared.command.Command.TheVariants as command
use Rattle.kcl_defs.specs.declared.consumer.Ask.{Ask}
use Rattle.kcl_defs.specs.declared.consumer.WorkerMade.{WorkerMade}
use Rattle.kcl_defs.specs.declared.plans.Held.{Held}
use Rattle.kcl_defs.specs.declared.plans.TenancyId.{TenancyId}
use Rattle.kcl_defs.specs.declared.plans.TakeStep.{TakeStep}
use Rattle.kds_defs.specs.declared.reply.Refusal.{Refusal}
use Rattle.kds_defs.specs.declared.reply.Reply.{Reply}
use Rattle.kds_defs.specs.declared.reply.Reply.TheVariants as reply
use Rattle.kcl_defs.specs.Consumers.{Called, Losing}
use Rattle.kcl_defs.specs.Consumers.{calls_after}
use Rattle.kcl_defs.specs.Lives.{Deal, deals_of}
use Rattle.kcl_defs.specs.Lives.{IsLifeAmong, IsLifeIn}
use Rattle.kcl_defs.specs.Workers.{Known, Pending, Chore, Surveying, Syncing, Taking, Renewing, Consuming, Finishing}
use Rattle.kcl_defs.specs.Workers.{Freeing, WorkerState, WorkerEvent, Made_call, Gave_command, Got_answer, Stopped}
use Rattle.kcl_defs.specs.Workers.{Released, Release, released, without_known, without_release, WorkerPast}
use Rattle.kcl_defs.specs.Workers.{worker_after, deals_after, id_of, same_id, happens_to, happens_to_first}
use Rattle.kcl_defs.specs.Workers.{is_due_known, after_retiring, known_of, consumer_command}
use Rattle.kcl_defs.specs.Workers.{stage_of_known, counter_of, AtSync}
use Rattle.kcl_defs.specs.Workers.{AtTakes, AtRenewals, AtConsumers, AtStopping}
use Rattle.kcl_defs.specs.Workers.{chore_at}
use Rattle.kcl_defs.specs.Workers.{id_of_held, next_pending, after_called, after_asked}
use Rattle.kcl_defs.specs.Workers.{after_stop, after_worker_event, after_survey, after_renewal, after_take, after_chore}
use Rattle.kcl_defs.specs.Workers.{absorbed, with_deal, deals_with, without_held, after_consumer, consumed, is_of}
use Rattle.kcl_defs.specs.Workers.{still_stands}
use Rattle.kds_defs.specs.declared.command.Turn.{Turn}
use Rattle.kcl_defs.specs.WorkerLives.{MayHappen, IsOrderly, IsToldIn}
use Rattle.kcl_defs.proofs.StepLemmas.{called_keeps, life_among}
use Rattle.kcl_defs.proofs.KnownLemmas.{InStep, IsAbout, IsQuiet, about, times}
use Rattle.kcl_defs.proofs.FineLemmas.{AreGood, AreNewTenures, IsFine, IsNewTenure, IsOwnCommand, IsWaitingOk}
use Rattle.kcl_defs.proofs.FineLemmas.{finish_chore}
use Rattle.kcl_defs.proofs.FineLemmas.{first_good, found_tenure, lost_good, own_good, pending_ok, quiet_good}
use Rattle.kcl_defs.proofs.FineLemmas.{settle_good}
use Rattle.kcl_defs.proofs.FineLemmas.{taken_good}

-- ---- Events

settle_fine : (deals : List Deal) (w : WorkerState) → w.waiting ≡ None → AreGood deals w.consumers w.retired
    → IsFine deals (after_retiring w)
settle_fine deals w none g = record {
  good = settle_good deals w.consumers w.retired g;
  waits = subst (λ o. IsWaitingOk o (after_retiring w)) (sym none) tt;
}

called_fine : (deals : List Deal) (asked : Ask) (w : WorkerState) → w.waiting ≡ None → IsFine deals w
    → IsFine deals (after_called asked w)
called_fine deals asked w none f =
    settle_fine deals (record w { consumers = happens_to_first is_due_known (Called asked) w.consumers }) none
    (first_good deals is_due_known (Called asked) w.consumers w.retired
    (λ k s. called_keeps deals k.made asked k.past s) f.good)

stop_fine : (deals : List Deal) (w : WorkerState) → w.waiting ≡ None → IsFine deals w → IsFine deals (after_stop w)
stop_fine deals w none f =
    settle_fine deals (record w { round = AtStopping; consumers = happens_to (λ k. true) Losing w.consumers }) none
    (lost_good deals (λ k. true) w.consumers w.retired f.good)

pub all_without : (P : Known → Type 0) (id : TenancyId) (xs : List Known) → AllByRecursion P xs
    → AllByRecursion P (without_known id xs)
all_without P id [] h = tt
all_without P id (x ∷ xs) h = head (same_id (id_of x) id) (all_without P id xs h.1)
  where
    head : (b : Bool) → AllByRecursion P (without_known id xs)
        → AllByRecursion P (if b then xs else x ∷ without_known id xs)
    head true rest = h.1
    head false rest = (h.0, rest)

times-without : (t : ℕ) (id : TenancyId) (xs : List Known) → times t (without_known id xs) ≤ times t xs
times-without t id [] = omega arith
times-without t id (x ∷ xs) = head (same_id (id_of x) id) (times-without t id xs)
  where
    fewer : (a b : ℕ) → b ≤ a + b
    fewer a b = omega arith

    as_many : (a b c : ℕ) → b ≤ c → a + b ≤ a + c
    as_many a b c h = omega arith

    head : (b : Bool) → times t (without_known id xs) ≤ times t xs
        → times t (if b then xs else x ∷ without_known id xs) ≤ times t (x ∷ xs)
    head true rest = fewer (if x.made.tenure == t then 1 else 0) (times t xs)
    head false rest = as_many (if x.made.tenure == t then 1 else 0) (times t (without_known id xs)) (times t xs) rest

without_good : (id : TenancyId) (deals : List Deal) (consumers retired : List Known) → AreGood deals consumers retired
    → AreGood deals (without_known id consumers) retired
without_good id deals consumers retired g = record {
  apart = λ t. less (times t (without_known id consumers)) (times t consumers) (times t retired)
      (times-without t id consumers) (g.apart t);
  begun = λ t n. none (times t (without_known id consumers)) (times t consumers) (times t retired)
      (times-without t id consumers) (g.begun t n);
  live = all_without (InStep deals) id consumers g.live;
  over = g.over;
}
  where
    less : (a b c : ℕ) → a ≤ b → b + c ≤ 1 → a + c ≤ 1
    less a b c h o = omega arith

    none : (a b c : ℕ) → a ≤ b → b + c ≡ 0 → a + c ≡ 0
    none a b c h o = omega arith

release_fine : (deals : List Deal) (o : Option Release) (w : WorkerState) → w.waiting ≡ None → IsFine deals w
    → IsFine deals (without_release o w)
release_fine deals None w none f = f
release_fine deals (Some r) w none f = record {
  good = without_good (id_of_held r.held) deals w.consumers w.retired f.good;
  waits = subst (λ o. IsWaitingOk o (without_release (Some r) w)) (sym none) tt;
}

consumer_good : (id : TenancyId) (deal : Deal) (deals : List Deal) (w : WorkerState) (o : Option Known)
    → known_of id w.consumers ≡ o → consumer_command w o ≡ Some deal.what → AreGood deals w.consumers w.retired
    → AreGood (deal ∷ deals) (consumed id deal.answer w.consumers) w.retired
consumer_good id deal deals w None e next g = absurd cc
consumer_good id deal deals w (Some k) e next g =
    own_good id deal deals k (counter_of (id_of k) w.held) w.consumers w.retired next
    (subst (λ t. IsAbout t deal.what) (found_tenure id k w.consumers e)
    (about k.made (stage_of_known k) (counter_of (id_of k) w.held) deal.what next)) e g

survey_good : (made : WorkerMade) (now : ℕ) (answer : Result Reply Refusal) (deals : List Deal) (w : WorkerState)
    → AreGood deals w.consumers w.retired
    → AreGood deals (after_survey made now answer w).consumers (after_survey made now answer w).retired
survey_good made now (Ok (reply.Survey shards rows)) deals w g =
    lost_good deals (is_of (filter (λ h. not (still_stands rows h)) w.held)) w.consumers w.retired g
survey_good made now (Ok _) deals w g = g
survey_good made now (Err r) deals w g = g

renewal_good : (now : ℕ) (h : Held) (answer : Result Reply Refusal) (deals : List Deal) (w : WorkerState)
    → AreGood deals w.consumers w.retired
    → AreGood deals (after_renewal now h answer w).consumers (after_renewal now h answer w).retired
renewal_good now h (Ok (reply.Counter counter)) deals w g = g
renewal_good now h (Ok _) deals w g = g
renewal_good now h (Err r) deals w g = lost_good deals (λ k. same_id (id_of k) (id_of_held h)) w.consumers w.retired g

take_good : (made : WorkerMade) (now : ℕ) (step : TakeStep) (asked : Command) (answer : Result Reply Refusal)
    (deals : List Deal) (w : WorkerState) → IsQuiet asked → IsNewTenure answer deals
    → AreGood deals w.consumers w.retired
    → AreGood (record { what = asked; answer = answer } ∷ deals) (after_take made now step answer w).consumers
    (after_take made now step answer w).retired
take_good made now step asked (Ok (reply.Taken tenure counter start)) deals w is new g =
    taken_good (record { what = asked; answer = Ok (reply.Taken tenure counter start) }) deals
    (record {
      made = record { key = step.key; tenure = tenure; start = start; limit = made.settings.limit };
      past = [];
    })
    w.consumers w.retired is refl (λ t. refl) new.0 new.1 new.2 g
take_good made now step asked (Ok _) deals w is new g =
    quiet_good (record { what = asked; answer = _ }) deals w.consumers w.retired is g
take_good made now step asked (Err r) deals w is new g =
    quiet_good (record { what = asked; answer = Err r }) deals w.consumers w.retired is g

pub survey_none : (made : WorkerMade) (now : ℕ) (answer : Result Reply Refusal) (w : WorkerState) → w.waiting ≡ None
    → (after_survey made now answer w).waiting ≡ None
survey_none made now (Ok (reply.Survey shards rows)) w none = none
survey_none made now (Ok _) w none = none
survey_none made now (Err r) w none = none

pub renewal_none : (now : ℕ) (h : Held) (answer : Result Reply Refusal) (w : WorkerState) → w.waiting ≡ None
    → (after_renewal now h answer w).waiting ≡ None
renewal_none now h (Ok (reply.Counter counter)) w none = none
renewal_none now h (Ok _) w none = none
renewal_none now h (Err r) w none = none

pub take_none : (made : WorkerMade) (now : ℕ) (step : TakeStep) (answer : Result Reply Refusal) (w : WorkerState)
    → w.waiting ≡ None → (after_take made now step answer w).waiting ≡ None
take_none made now step (Ok (reply.Taken tenure counter start)) w none = none
take_none made now step (Ok _) w none = none
take_none made now step (Err r) w none = none

chore_fine : (made : WorkerMade) (now : ℕ) (answer : Result Reply Refusal) (deals : List Deal) (chore : Chore)
    (asked : Command) (w : WorkerState) → w.waiting ≡ None → IsOwnCommand chore asked w → IsNewTenure answer deals
    → AreGood deals w.consumers w.retired
    → IsFine (record { what = asked; answer = answer } ∷ deals) (after_retiring (after_chore made now answer chore w))
chore_fine made now answer deals Surveying asked w none is new g =
    settle_fine _ (after_survey made now answer w) (survey_none made now answer w none)
    (survey_good made now answer (record { what = asked; answer = answer } ∷ deals) w
    (quiet_good (record { what = asked; answer = answer }) deals w.consumers w.retired is g))
chore_fine made now answer deals (Syncing step syncs takes) asked w none is new g =
    settle_fine _ (record w { round = AtSync syncs takes }) none
    (quiet_good (record { what = asked; answer = answer }) deals w.consumers w.retired is g)
chore_fine made now answer deals (Taking step takes) asked w none is new g =
    settle_fine _ (after_take made now step answer (record w { round = AtTakes takes }))
    (take_none made now step answer (record w { round = AtTakes takes }) none)
    (take_good made now step asked answer deals (record w { round = AtTakes takes }) is new g)
chore_fine made now answer deals (Renewing h) asked w none is new g =
    settle_fine _ (after_renewal now h answer (record w { round = AtRenewals (Some (id_of_held h)) }))
    (renewal_none now h answer (record w { round = AtRenewals (Some (id_of_held h)) }) none)
    (renewal_good now h answer (record { what = asked; answer = answer } ∷ deals)
    (record w { round = AtRenewals (Some (id_of_held h)) })
    (quiet_good (record { what = asked; answer = answer }) deals w.consumers w.retired is g))
chore_fine made now answer deals (Consuming id) asked w none is new g =
    settle_fine _ (after_consumer now id answer (record w { round = AtConsumers (Some id) })) none
    (consumer_good id (record { what = asked; answer = answer }) deals w (known_of id w.consumers) refl is g)
chore_fine made now answer deals (Finishing id) asked w none is new g =
    settle_fine _ (record w { consumers = consumed id answer w.consumers }) none
    (consumer_good id (record { what = asked; answer = answer }) deals w (known_of id w.consumers) refl is g)
chore_fine made now answer deals (Freeing h) asked w none is new g =
    settle_fine _ (record w { held = without_held (id_of_held h) w.held }) none
    (quiet_good (record { what = asked; answer = answer }) deals w.consumers w.retired is g)

pub own_without : (chore : Chore) (asked : Command) (w : WorkerState) → IsOwnCommand chore asked w
    → IsOwnCommand chore asked (record w { waiting = None })
own_without (Consuming id) asked w h = h
own_without (Finishing id) asked w h = h
own_without Surveying asked w h = h
own_without (Syncing step syncs takes) asked w h = h
own_without (Taking step takes) asked w h = h
own_without (Renewing g) asked w h = h
own_without (Freeing g) asked w h = h

absorbed_fine : (made : WorkerMade) (now : ℕ) (answer : Result Reply Refusal) (deals : List Deal) (w : WorkerState)
    (o : Option Pending) → IsWaitingOk o w → AreNewTenures (with_deal o answer deals) → IsFine deals w
    → IsFine (with_deal o answer deals) (absorbed made now answer w o)
absorbed_fine made now answer deals w None is new f = f
absorbed_fine made now answer deals w (Some p) is new f =
    chore_fine made now answer deals p.chore p.what (record w { waiting = None }) refl (own_without p.chore p.what w is)
    new.0 f.good

pending_asked : (o : Option Pending) (w : WorkerState) (p : Option Pending) → IsWaitingOk o w
    → IsWaitingOk o (record w { waiting = p })
pending_asked None w p h = tt
pending_asked (Some q) w p h = own_asked q.chore q.what w p h
  where
    own_asked : (chore : Chore) (asked : Command) (w : WorkerState) (p : Option Pending) → IsOwnCommand chore asked w
        → IsOwnCommand chore asked (record w { waiting = p })
    own_asked (Consuming id) asked w p h = h
    own_asked (Finishing id) asked w p h = h
    own_asked Surveying asked w p h = h
    own_asked (Syncing step syncs takes) asked w p h = h
    own_asked (Taking step takes) asked w p h = h
    own_asked (Renewing g) asked w p h = h
    own_asked (Freeing g) asked w p h = h

asked_fine : (made : WorkerMade) (now : ℕ) (deals : List Deal) (w : WorkerState) → IsFine deals w
    → IsFine deals (after_asked made now w)
asked_fine made now deals w f = record {
  good = f.good;
  waits = pending_asked (next_pending made now w) w (next_pending made now w)
      (pending_ok made w (chore_at made now w) (finish_chore deals made.settings.failover now w w.round f.good));
}

pub new_before : (event : WorkerEvent) (w : WorkerState) (deals : List Deal) → AreNewTenures (deals_with event w deals)
    → AreNewTenures deals
new_before (Got_answer now answer) w deals h = cases w.waiting h
  where
    cases : (o : Option Pending) → AreNewTenures (with_deal o answer deals) → AreNewTenures deals
    cases None h = h
    cases (Some p) h = h.1
new_before (Made_call asked) w deals h = h
new_before (Gave_command now) w deals h = h
new_before Stopped w deals h = h
new_before (Released key) w deals h = h

pub state_fine : (made : WorkerMade) (event : WorkerEvent) (w : WorkerState) (deals : List Deal)
    → MayHappen made event w → AreNewTenures (deals_with event w deals) → IsFine deals w
    → IsFine (deals_with event w deals) (after_worker_event made event w)
state_fine made (Made_call asked) w deals may new f = called_fine deals asked w may f
state_fine made (Gave_command now) w deals may new f = asked_fine made now deals w f
state_fine made (Got_answer now answer) w deals may new f =
    absorbed_fine made now answer deals w w.waiting f.waits new f
state_fine made Stopped w deals may new f = stop_fine deals w may f
state_fine made (Released key) w deals may new f = release_fine deals (released key w) w may f

event_fine : (made : WorkerMade) (event : WorkerEvent) (past : WorkerPast)
    → MayHappen made event (worker_after made past) → AreNewTenures (deals_after made (event ∷ past))
    → IsFine (deals_after made past) (worker_after made past)
    → IsFine (deals_after made (event ∷ past)) (worker_after made (event ∷ past))
event_fine made event past may new f = state_fine made event (worker_after made past) (deals_after made past) may new f

pub fine : (made : WorkerMade) (past : WorkerPast) → IsOrderly made past → AreNewTenures (deals_after made past)
    → IsFine (deals_after made past) (worker_after made past)
fine made [] orderly new = record {
  good = record { apart = λ t. omega arith; begun = λ t n. refl; live = tt; over = tt };
  waits = tt;
}
fine made (event ∷ past) orderly new =
    event_fine made event past orderly.0 new
    (fine made past orderly.1 (new_before event (worker_after made past) (deals_after made past) new))

live_among : (made : WorkerMade) (past : WorkerPast) → IsOrderly made past → AreNewTenures (deals_after made past)
    → AllByRecursion (λ k. IsLifeAmong (deals_after made past) k.made (calls_after k.made k.past))
    (worker_after made past).consumers
live_among made past orderly new =
    all_weaker (InStep (deals_after made past)) _ (λ k s. life_among (deals_after made past) k.made k.past s)
    (worker_after made past).consumers (fine made past orderly new).good.live

pub live_served : (actor : ℕ) (h : List Turn) (made : WorkerMade) (past : WorkerPast) → IsOrderly made past
    → IsToldIn actor h made past → AreNewTenures (deals_of actor h)
    → AllByRecursion (λ k. IsLifeIn actor h k.made (calls_after k.made k.past)) (worker_after made past).consumers
live_served actor h made past orderly is_told new =
    let P : List Deal → Type 0 =
    λ deals. AllByRecursion (λ k. IsLifeAmong deals k.made (calls_after k.made k.past))
    (worker_after made past).consumers in
    subst P (sym is_told) (live_among made past orderly (subst AreNewTenures is_told new))
