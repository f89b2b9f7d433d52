-- After each answer, the worker with its new fields stands for its trace with the answer added.
use Rattle.std.proofs.Common.{◌≡◌, ℕ, ◌++◌, Bool, List, ◌∷◌, Option, Some, None, refl, sym, ap, subst, ◌∙◌}
use Rattle.std.specs.Prelude.{Result}
use Rattle.std.specs.Option.{option_map}
use Rattle.kcl_defs.specs.declared.consumer.Call.{Call}
use Rattle.kcl_defs.specs.declared.plans.Held.{Held}
use Rattle.kcl_defs.specs.declared.plans.TenancyId.{TenancyId}
use Rattle.kcl_defs.specs.declared.plans.Seen.{Seen}
use Rattle.kcl_defs.specs.declared.plans.SyncStep.{SyncStep}
use Rattle.kcl_defs.specs.declared.plans.TakeStep.{TakeStep}
use Rattle.kds_defs.specs.declared.reply.Refusal.{Refusal}
use Rattle.kds_defs.specs.declared.reply.Reply.{Reply}
use Rattle.kcl_defs.specs.Consumers.{Losing}
use Rattle.kcl_defs.specs.Workers.{AtConsumers, AtRenewals, AtSync, Chore, Consuming, Finishing, Freeing, Got_answer}
use Rattle.kcl_defs.specs.Workers.{Known, Pending, Renewing, Round, WorkerPast, WorkerState, absorbed, after_chore}
use Rattle.kcl_defs.specs.Workers.{after_renewal, consumed, happens_to, held_after, held_unless_over, id_of, id_of_held}
use Rattle.kcl_defs.specs.Workers.{known_of, stage_in, same_id, after_retiring, without_held, worker_after}
use Rattle.kcl_consumer.specs.Standing.{ConsumerValue}
use Rattle.kcl_worker_lists.specs.Changes.{answered_among, held_in, kept_unless_over, live_among, lost_among, first_of}
use Rattle.kcl_worker_lists.specs.Changes.{stage_or_opening, retired_among}
use Rattle.kcl_worker.specs.Standing.{settled_in}
use Rattle.kcl_worker_lists.specs.Lists.{Retirement}
use Rattle.kcl_worker.specs.Standing.{ConsumersStand, RetirementsStand, ShowsState, StandsFor, WorkerStanding}
use Rattle.kcl_worker.specs.Written.{Leaves, renewal_by}
use Rattle.kcl_worker.specs.declared.answers.RowAnswer.TheVariants as row_answer
use Rattle.kcl_worker.proofs.Happenings.{answered_stand, lost_stand}
use Rattle.kcl_worker.proofs.Outlooks.{IsFoundSo, found_so}
use Rattle.kcl_worker.proofs.Standings.{settled_shows}

waits_for : (o : Option Pending) (chore : Chore) → Some chore ≡ option_map (λ p. p.chore) o
    → (p : Pending) × (o ≡ Some p) × (p.chore ≡ chore)
waits_for None chore e = absurd cc
waits_for (Some p) chore e = (p, refl, cc)

-- It is enough that the new fields agree with the state after the answer.
pub absorbed_stands : {P F : Type 0} (stands : P → List Call → Type 0) (w new : WorkerStanding P F) (now : ℕ)
    (answer : Result Reply Refusal) (chore : Chore) (round : Round) (seen : List Seen) (held : List Held)
    (consumers : List (ConsumerValue P)) (maker : F) (past : WorkerPast) → w.waiting ≡ Some chore
    → new ≡ settled_in (record w {
      round = round;
      waiting = None;
      seen = seen;
      held = held;
      consumers = consumers;
      maker = maker;
    }) → ((s : WorkerState) → ShowsState stands w s
    → ShowsState stands (record w {
      round = round;
      waiting = None;
      seen = seen;
      held = held;
      consumers = consumers;
      maker = maker;
    }) (after_chore w.made now answer chore (record s { waiting = None })))
    → StandsFor stands w past → StandsFor stands new (Got_answer now answer ∷ past)
absorbed_stands {P} {F} stands w new now answer chore round seen held consumers maker past waits is leads st =
    let s : WorkerState = worker_after w.made past in
    let p = waits_for s.waiting chore (sym waits ∙ st.shows.waiting) in
    let S : WorkerStanding P F → Type 0 = λ v. StandsFor stands v (Got_answer now answer ∷ past) in
    let old : WorkerStanding P F =
    record w { round = round; waiting = None; seen = seen; held = held; consumers = consumers; maker = maker } in
    let T : WorkerState → Type 0 = λ t. ShowsState stands (settled_in old) t in
    subst S (sym is) (record {
      orderly = (tt, st.orderly);
      shows =
          subst T (ap (λ c. after_retiring (after_chore w.made now answer c (record s { waiting = None }))) (sym p.2)
          ∙ ap (λ o. absorbed w.made now answer s o) (sym p.1))
          (settled_shows stands old _ (leads s st.shows));
    })

-- ---- Chores

pub synced_shows : {P F : Type 0} (stands : P → List Call → Type 0) (w : WorkerStanding P F) (s : WorkerState)
    (syncs : List SyncStep) (takes : List TakeStep) → ShowsState stands w s
    → ShowsState stands (record w { round = AtSync syncs takes; waiting = None })
    (record s { waiting = None; round = AtSync syncs takes })
synced_shows stands w s syncs takes h = record {
  round = refl;
  waiting = refl;
  seen = h.seen;
  held = h.held;
  consumers = h.consumers;
  retired = h.retired;
}

pub freed_shows : {P F : Type 0} (stands : P → List Call → Type 0) (w : WorkerStanding P F) (s : WorkerState)
    (id : TenancyId) → ShowsState stands w s
    → ShowsState stands (record w { waiting = None; held = without_held id w.held })
    (record s { waiting = None; held = without_held id s.held })
freed_shows stands w s id h = record {
  round = h.round;
  waiting = refl;
  seen = h.seen;
  held = ap (without_held id) h.held;
  consumers = h.consumers;
  retired = h.retired;
}

pub finished_shows : {P F : Type 0} (stands : P → List Call → Type 0) (w : WorkerStanding P F) (s : WorkerState)
    (id : TenancyId) (answer : Result Reply Refusal) → ShowsState stands w s
    → ShowsState stands (record w { waiting = None; consumers = answered_among id answer w.consumers })
    (record s { waiting = None; consumers = consumed id answer s.consumers })
finished_shows stands w s id answer h = record {
  round = h.round;
  waiting = refl;
  seen = h.seen;
  held = h.held;
  consumers = answered_stand stands id answer w.consumers s.consumers h.consumers;
  retired = h.retired;
}

stage_found : {P : Type 0} (o : Option (ConsumerValue P)) (k : Option Known) → IsFoundSo o k
    → stage_or_opening o ≡ stage_in k
stage_found None None f = refl
stage_found (Some c) (Some k) f = f.1
stage_found None (Some k) f = absurd f
stage_found (Some c) None f = absurd f

kept_found : {P : Type 0} (id : TenancyId) (o : Option (ConsumerValue P)) (k : Option Known) (held : List Held)
    → IsFoundSo o k
    → kept_unless_over id o held ≡ held_unless_over id k held
kept_found id None None held f = refl
kept_found id (Some c) (Some k) held f = ap (λ p. kept_unless_over id (Some (record c { stage = p })) held) f.1
kept_found id None (Some k) held f = absurd f
kept_found id (Some c) None held f = absurd f

pub consumed_shows : {P F : Type 0} (stands : P → List Call → Type 0) (w : WorkerStanding P F) (s : WorkerState)
    (now : ℕ) (id : TenancyId) (answer : Result Reply Refusal) → ShowsState stands w s
    → ShowsState stands (record w {
      round = AtConsumers (Some id);
      waiting = None;
      held = held_in now id answer w.consumers w.held;
      consumers = answered_among id answer w.consumers;
    })
    (after_chore w.made now answer (Consuming id) (record s { waiting = None }))
consumed_shows stands w s now id answer h =
    let after = answered_stand stands id answer w.consumers s.consumers h.consumers in
    let first = found_so stands (λ i p. same_id i id) w.consumers s.consumers h.consumers in
    let last = found_so stands (λ i p. same_id i id) (answered_among id answer w.consumers)
    (consumed id answer s.consumers) after in
    record {
      round = refl;
      waiting = refl;
      seen = h.seen;
      held =
          ap (λ hs. kept_unless_over id (first_of id (answered_among id answer w.consumers))
          (held_after now id (stage_or_opening (first_of id w.consumers)) answer hs)) h.held
          ∙ ap (λ p. kept_unless_over id (first_of id (answered_among id answer w.consumers))
          (held_after now id p answer s.held))
          (stage_found (first_of id w.consumers) (known_of id s.consumers) first)
          ∙ kept_found id (first_of id (answered_among id answer w.consumers))
          (known_of id (consumed id answer s.consumers))
          (held_after now id (stage_in (known_of id s.consumers)) answer s.held) last;
      consumers = after;
      retired = h.retired;
    }

-- ---- The fields that the code has written. `w` and `old` are the worker before the answer

pub absorbed_leaves : {P F : Type 0} (stands : P → List Call → Type 0) (w old : WorkerStanding P F) → w ≡ old
    → (now : ℕ) (answer : Result Reply Refusal) (chore : Chore) (round : Round) (held : List Held)
    (consumers cs : List (ConsumerValue P)) (rs : List (Retirement P)) (past : WorkerPast) → old.waiting ≡ Some chore
    → cs ≡ live_among consumers → rs ≡ w.retired ++ retired_among consumers
    → ((s : WorkerState) → ShowsState stands w s
    → ShowsState stands (record w { round = round; waiting = None; held = held; consumers = consumers })
    (after_chore w.made now answer chore (record s { waiting = None }))) → StandsFor stands old past
    → StandsFor stands (record w { round = round; waiting = None; held = held; consumers = cs; retired = rs })
    (Got_answer now answer ∷ past)
absorbed_leaves stands w old is now answer chore round held consumers cs rs past waits live over leads st =
    absorbed_stands stands w (record w { round = round; waiting = None; held = held; consumers = cs; retired = rs })
    now answer chore round w.seen held consumers w.maker past
    (ap (λ v. v.waiting) is ∙ waits) (λ i. record w {
      round = round;
      waiting = None;
      held = held;
      consumers = live i;
      retired = over i;
    }) leads
    (subst (λ v. StandsFor stands v past) (sym is) st)

left_shows : {P F : Type 0} (stands : P → List Call → Type 0) (w : WorkerStanding P F) (s t : WorkerState)
    (round : Round) (held : List Held) (cs : List (ConsumerValue P)) → ShowsState stands w s
    → Leaves stands (record s { waiting = None; round = round }) t held cs
    → ShowsState stands (record w { round = round; waiting = None; held = held; consumers = cs }) t
left_shows stands w s t round held cs h l = record {
  round = sym l.round;
  waiting = ap (λ o. option_map (λ p. p.chore) o) (sym l.waiting);
  seen = λ key. h.seen key ∙ ap (λ f. f key) (sym l.seen);
  held = l.held_so;
  consumers = l.consumers;
  retired = subst (λ ks. RetirementsStand stands w.retired ks) (sym l.retired) h.retired;
}

pub renewal_leaves : {P F : Type 0} (stands : P → List Call → Type 0) (w old : WorkerStanding P F) → w ≡ old
    → (now : ℕ) (answer : Result Reply Refusal) (h : Held) (id : TenancyId) (held : List Held)
    (consumers cs : List (ConsumerValue P)) (rs : List (Retirement P)) (past : WorkerPast) → id ≡ id_of_held h
    → old.waiting ≡ Some (Renewing h) → cs ≡ live_among consumers → rs ≡ w.retired ++ retired_among consumers
    → ((s : WorkerState) → w.held ≡ s.held → ConsumersStand stands w.consumers s.consumers
    → Leaves stands s (after_renewal now h answer s) held consumers) → StandsFor stands old past
    → StandsFor stands (record w {
      round = AtRenewals (Some id);
      waiting = None;
      held = held;
      consumers = cs;
      retired = rs;
    }) (Got_answer now answer ∷ past)
renewal_leaves stands w old is now answer h id held consumers cs rs past same waits live over leaves st =
    subst (λ i. StandsFor stands (record w {
      round = AtRenewals (Some i);
      waiting = None;
      held = held;
      consumers = cs;
      retired = rs;
    }) (Got_answer now answer ∷ past)) (sym same)
    (absorbed_leaves stands w old is now answer (Renewing h) (AtRenewals (Some (id_of_held h))) held consumers cs rs
    past waits live over
    (λ s shows.
    left_shows stands w s _ (AtRenewals (Some (id_of_held h))) held consumers shows
    (leaves (record s { waiting = None; round = AtRenewals (Some (id_of_held h)) }) shows.held shows.consumers)) st)

pub consumer_leaves : {P F : Type 0} (stands : P → List Call → Type 0) (w old : WorkerStanding P F) → w ≡ old
    → (now : ℕ) (answer : Result Reply Refusal) (id : TenancyId) (held : List Held)
    (consumers cs : List (ConsumerValue P))
    (rs : List (Retirement P)) (past : WorkerPast) → old.waiting ≡ Some (Consuming id)
    → held ≡ held_in now id answer w.consumers w.held → consumers ≡ answered_among id answer w.consumers
    → cs ≡ live_among consumers → rs ≡ w.retired ++ retired_among consumers → StandsFor stands old past
    → StandsFor stands (record w {
      round = AtConsumers (Some id);
      waiting = None;
      held = held;
      consumers = cs;
      retired = rs;
    }) (Got_answer now answer ∷ past)
consumer_leaves stands w old is now answer id held consumers cs rs past waits a b live over st =
    absorbed_leaves stands w old is now answer (Consuming id) (AtConsumers (Some id)) held consumers cs rs past waits
    live over
    (λ s shows.
    subst (λ v. ShowsState stands v (after_chore w.made now answer (Consuming id) (record s { waiting = None })))
    (λ i. record w { round = AtConsumers (Some id); waiting = None; held = sym a i; consumers = sym b i })
    (consumed_shows stands w s now id answer shows)) st

pub give_leaves : {P F : Type 0} (stands : P → List Call → Type 0) (w old : WorkerStanding P F) → w ≡ old
    → (now : ℕ) (answer : Result Reply Refusal) (id : TenancyId) (consumers cs : List (ConsumerValue P))
    (rs : List (Retirement P)) (past : WorkerPast) → old.waiting ≡ Some (Finishing id)
    → consumers ≡ answered_among id answer w.consumers → cs ≡ live_among consumers
    → rs ≡ w.retired ++ retired_among consumers → StandsFor stands old past
    → StandsFor stands (record w { waiting = None; consumers = cs; retired = rs }) (Got_answer now answer ∷ past)
give_leaves stands w old is now answer id consumers cs rs past waits b live over st =
    absorbed_leaves stands w old is now answer (Finishing id) w.round w.held consumers cs rs past waits live over
    (λ s shows.
    subst (λ v. ShowsState stands v (after_chore w.made now answer (Finishing id) (record s { waiting = None })))
    (λ i. record w { waiting = None; consumers = sym b i })
    (finished_shows stands w s id answer shows)) st

pub freeing_leaves : {P F : Type 0} (stands : P → List Call → Type 0) (w old : WorkerStanding P F) → w ≡ old
    → (now : ℕ) (answer : Result Reply Refusal) (h : Held) (held : List Held) (cs : List (ConsumerValue P))
    (rs : List (Retirement P)) (past : WorkerPast) → old.waiting ≡ Some (Freeing h)
    → held ≡ without_held (id_of_held h) w.held → cs ≡ live_among w.consumers
    → rs ≡ w.retired ++ retired_among w.consumers → StandsFor stands old past
    → StandsFor stands (record w { waiting = None; held = held; consumers = cs; retired = rs })
    (Got_answer now answer ∷ past)
freeing_leaves stands w old is now answer h held cs rs past waits a live over st =
    absorbed_leaves stands w old is now answer (Freeing h) w.round held w.consumers cs rs past waits live over
    (λ s shows.
    subst (λ v. ShowsState stands v (after_chore w.made now answer (Freeing h) (record s { waiting = None })))
    (λ i. record w { waiting = None; held = sym a i })
    (freed_shows stands w s (id_of_held h) shows)) st

-- A refused renewal drops the lease, and its consumer learns of the loss.
pub refused_leaves : {P : Type 0} (stands : P → List Call → Type 0) (s : WorkerState) (now : ℕ) (h : Held)
    (answer : Result Reply Refusal) (loss : Bool) (id : TenancyId) (held held' : List Held)
    (cs cs' : List (ConsumerValue P))
    → id ≡ id_of_held h → after_renewal now h answer s ≡ renewal_by now h (row_answer.Refused loss) s
    → held' ≡ without_held id held → cs' ≡ lost_among (λ i. same_id i id) cs → held ≡ s.held
    → ConsumersStand stands cs s.consumers → Leaves stands s (after_renewal now h answer s) held' cs'
refused_leaves stands s now h answer loss id held held' cs cs' same is_by a b e stand =
    subst (λ t. Leaves stands s t held' cs') (sym is_by) (record {
      held_so = a ∙ ap (λ i. without_held i held) same ∙ ap (without_held (id_of_held h)) e;
      consumers = subst (λ ds.
          ConsumersStand stands ds (happens_to (λ k. same_id (id_of k) (id_of_held h)) Losing s.consumers))
          (sym (b ∙ ap (λ i. lost_among (λ j. same_id j i) cs) same))
          (lost_stand stands (λ i. same_id i (id_of_held h)) cs s.consumers stand);
      round = refl;
      waiting = refl;
      seen = refl;
      retired = refl;
    })
