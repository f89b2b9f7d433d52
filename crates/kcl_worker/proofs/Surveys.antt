-- After a survey's answer, the worker stands for its trace with the answer added.
use Rattle.std.proofs.Common.{◌≡◌, ℕ, ◌++◌, List, ◌∷◌, Some, None, Ok, Err, refl, sym, ap, subst, ◌∙◌}
use Rattle.std.specs.Prelude.{Result}
use Rattle.std.specs.List.{filter}
use Rattle.kds_base.specs.declared.lease_key.ShardRef.{ShardRef}
use Rattle.kcl_defs.specs.declared.consumer.Call.{Call}
use Rattle.kcl_defs.specs.declared.plans.SyncStep.{SyncStep}
use Rattle.kcl_defs.specs.declared.plans.TakeStep.{TakeStep}
use Rattle.kds_defs.specs.declared.reply.Refusal.{Refusal}
use Rattle.kds_defs.specs.declared.reply.Reply.{Reply}
use Rattle.kds_defs.specs.declared.reply.Reply.TheVariants as reply
use Rattle.kds_defs.specs.declared.reply.Row.{Row}
use Rattle.kcl_defs.specs.Consumers.{Losing}
use Rattle.kcl_defs.specs.Plans.{after_rows, expiry, seen_at, sync_plan, take_plan}
use Rattle.kcl_defs.specs.Workers.{AtSync, Got_answer, Surveying, WorkerPast, WorkerState, after_chore, happens_to}
use Rattle.kcl_defs.specs.Workers.{id_of, still_stands}
use Rattle.kcl_consumer.specs.Standing.{ConsumerValue}
use Rattle.kcl_worker_lists.specs.declared.planning.Planned.{Planned}
use Rattle.kcl_worker_lists.specs.Changes.{live_among, lost_among, retired_among}
use Rattle.kcl_worker_lists.specs.Planning.{IsPlanned, IsPlannedAfter, lost_of, is_among}
use Rattle.kcl_worker_lists.specs.Lists.{Retirement}
use Rattle.kcl_worker.specs.Standing.{ConsumersStand, ShowsState, StandsFor, WorkerStanding}
use Rattle.kcl_worker.proofs.Absorbings.{absorbed_leaves, absorbed_stands}
use Rattle.kcl_worker.proofs.Happenings.{lost_stand}

surveyed_shows : {P F : Type 0} (stands : P → List Call → Type 0) (w : WorkerStanding P F) (s : WorkerState) (now : ℕ)
    (shards : List ShardRef) (rows : List Row) (p : Planned) → IsPlanned w.made w.seen w.held shards rows now p
    → ShowsState stands w s
    → ShowsState stands (record w {
      round = AtSync p.syncs p.takes;
      waiting = None;
      seen = p.observed;
      held = p.held.items;
      consumers = lost_among (is_among p.lost.items) w.consumers;
    })
    (after_chore w.made now (Ok (reply.Survey shards rows)) Surveying (record s { waiting = None }))
surveyed_shows stands w s now shards rows p is h =
    let is_before : seen_at w.seen ≡ s.seen = λ i k. h.seen k i in
    let seen : seen_at p.observed ≡ after_rows rows now s.seen =
    (λ i k. is.seen_so k i) ∙ ap (after_rows rows now) is_before in
    let held : p.held.items ≡ filter (still_stands rows) s.held = is.held_so ∙ ap (filter (still_stands rows)) h.held in
    let lost : p.lost.items ≡ lost_of rows s.held = is.lost_so ∙ ap (lost_of rows) h.held in
    record {
      round =
          ap (λ a. AtSync a p.takes) is.syncs_so
          ∙ ap (λ b. AtSync (sync_plan shards rows w.made.settings.from) b) (is.takes_so
          ∙ ap (λ f. take_plan (expiry f now w.made.settings.failover) w.made.name p.held.items rows) seen
          ∙ ap (λ hs. take_plan (expiry (after_rows rows now s.seen) now w.made.settings.failover) w.made.name hs rows)
          held);
      waiting = refl;
      seen = λ k. ap (λ f. f k) seen;
      held = held;
      consumers = subst (λ hs.
          ConsumersStand stands (lost_among (is_among p.lost.items) w.consumers)
          (happens_to (λ k. is_among hs (id_of k)) Losing s.consumers)) lost
          (lost_stand stands (is_among p.lost.items) w.consumers s.consumers h.consumers);
      retired = h.retired;
    }

-- The answer accepted the survey.
pub planned_leaves : {P F : Type 0} (stands : P → List Call → Type 0) (w old : WorkerStanding P F) → w ≡ old
    → (now : ℕ) (answer : Result Reply Refusal) (p : Planned) (syncs : List SyncStep) (takes : List TakeStep)
    (consumers cs : List (ConsumerValue P)) (rs : List (Retirement P)) (past : WorkerPast)
    → old.waiting ≡ Some Surveying
    → IsPlannedAfter old.made old.seen old.held now answer (Some p) → syncs ≡ p.syncs → takes ≡ p.takes
    → consumers ≡ lost_among (is_among p.lost.items) w.consumers → cs ≡ live_among consumers
    → rs ≡ w.retired ++ retired_among consumers → StandsFor stands old past
    → StandsFor stands (record w {
      round = AtSync syncs takes;
      waiting = None;
      seen = p.observed;
      held = p.held.items;
      consumers = cs;
      retired = rs;
    }) (Got_answer now answer ∷ past)
planned_leaves stands w old is now (Ok (reply.Survey shards rows)) p syncs takes consumers cs rs past waits planned a b
    e live over st =
    absorbed_stands stands w (record w {
      round = AtSync syncs takes;
      waiting = None;
      seen = p.observed;
      held = p.held.items;
      consumers = cs;
      retired = rs;
    }) now (Ok (reply.Survey shards rows)) Surveying
    (AtSync syncs takes) p.observed p.held.items consumers w.maker past (ap (λ v. v.waiting) is ∙ waits)
    (λ i. record w {
      round = AtSync syncs takes;
      waiting = None;
      seen = p.observed;
      held = p.held.items;
      consumers = live i;
      retired = over i;
    })
    (λ s shows.
    subst (λ v. ShowsState stands v
    (after_chore w.made now (Ok (reply.Survey shards rows)) Surveying (record s { waiting = None })))
    (λ i. record w {
      round = AtSync (sym a i) (sym b i);
      waiting = None;
      seen = p.observed;
      held = p.held.items;
      consumers = sym e i;
    })
    (surveyed_shows stands w s now shards rows p
    (subst (λ v. IsPlanned v.made v.seen v.held shards rows now p) (sym is) planned) shows))
    (subst (λ v. StandsFor stands v past) (sym is) st)
planned_leaves stands w old is now (Ok _) p syncs takes consumers cs rs past waits planned a b e live over st =
    absurd planned
planned_leaves stands w old is now (Err r) p syncs takes consumers cs rs past waits planned a b e live over st =
    absurd planned

kept_shows : {P F : Type 0} (stands : P → List Call → Type 0) (w : WorkerStanding P F) (s : WorkerState)
    → ShowsState stands w s → ShowsState stands (record w { waiting = None }) (record s { waiting = None })
kept_shows stands w s h = record {
  round = h.round;
  waiting = refl;
  seen = h.seen;
  held = h.held;
  consumers = h.consumers;
  retired = h.retired;
}

unplanned_shows : {P F : Type 0} (stands : P → List Call → Type 0) (w : WorkerStanding P F) (s : WorkerState) (now : ℕ)
    (answer : Result Reply Refusal) → IsPlannedAfter w.made w.seen w.held now answer None → ShowsState stands w s
    → ShowsState stands (record w { waiting = None })
    (after_chore w.made now answer Surveying (record s { waiting = None }))
unplanned_shows stands w s now (Ok (reply.Survey shards rows)) none h = absurd none
unplanned_shows stands w s now (Ok _) none h = kept_shows stands w s h
unplanned_shows stands w s now (Err r) none h = kept_shows stands w s h

-- No plan came from the answer, such as a refusal.
pub unplanned_leaves : {P F : Type 0} (stands : P → List Call → Type 0) (w old : WorkerStanding P F) → w ≡ old
    → (now : ℕ) (answer : Result Reply Refusal) (cs : List (ConsumerValue P)) (rs : List (Retirement P))
    (past : WorkerPast)
    → old.waiting ≡ Some Surveying → IsPlannedAfter old.made old.seen old.held now answer None
    → cs ≡ live_among w.consumers → rs ≡ w.retired ++ retired_among w.consumers → StandsFor stands old past
    → StandsFor stands (record w { waiting = None; consumers = cs; retired = rs }) (Got_answer now answer ∷ past)
unplanned_leaves stands w old is now answer cs rs past waits none live over st =
    absorbed_leaves stands w old is now answer Surveying w.round w.held w.consumers cs rs past waits live over
    (λ s shows. unplanned_shows stands w s now answer
    (subst (λ v. IsPlannedAfter v.made v.seen v.held now answer None) (sym is) none) shows) st
