-- After a processor call or a stop, the worker stands for its trace with it added.
use Rattle.std.proofs.Common.{◌≡◌, true, List, ◌∷◌, ◌++◌, None, Ok, Err, refl, sym, subst, ◌∙◌}
use Rattle.std.specs.Prelude.{OnErr, Result}
use Rattle.kcl_defs.specs.declared.consumer.Ask.{Ask}
use Rattle.kcl_defs.specs.declared.consumer.Call.{Call}
use Rattle.kds_defs.specs.declared.reply.Stored.{Stored}
use Rattle.kcl_defs.specs.Consumers.{Called, Losing}
use Rattle.kcl_defs.specs.Workers.{AtStopping, Made_call, Stopped, WorkerPast, WorkerState, happens_to}
use Rattle.kcl_defs.specs.Workers.{happens_to_first, is_due_known, after_retiring, worker_after}
use Rattle.kcl_consumer.specs.Standing.{ConsumerValue}
use Rattle.kcl_worker_lists.specs.Changes.{FirstCalled, FirstUncalled, live_among, lost_among, retired_among}
use Rattle.kcl_worker.specs.Standing.{settled_in}
use Rattle.kcl_worker_lists.specs.Lists.{Retirement}
use Rattle.kcl_worker.specs.Standing.{ShowsState, StandsFor, WorkerStanding}
use Rattle.kcl_worker.proofs.Happenings.{first_called_stand, live_stand, lost_stand, retired_stand, retirements_append}
use Rattle.kcl_worker.proofs.Happenings.{uncalled_stand}
use Rattle.kcl_worker.proofs.Outlooks.{none_mapped}

pub is_free : {P F : Type 0} (stands : P → List Call → Type 0) (w : WorkerStanding P F) (s : WorkerState)
    → w.waiting ≡ None → ShowsState stands w s → s.waiting ≡ None
is_free stands w s free shows = none_mapped s.waiting (sym free ∙ shows.waiting)

pub settled_shows : {P F : Type 0} (stands : P → List Call → Type 0) (w : WorkerStanding P F) (s : WorkerState)
    → ShowsState stands w s → ShowsState stands (settled_in w) (after_retiring s)
settled_shows stands w s h = record {
  round = h.round;
  waiting = h.waiting;
  seen = h.seen;
  held = h.held;
  consumers = live_stand stands w.consumers s.consumers h.consumers;
  retired = retirements_append stands w.retired (retired_among w.consumers) s.retired _ h.retired
      (retired_stand stands w.consumers s.consumers h.consumers);
}

pub stop_stands : {P F : Type 0} (stands : P → List Call → Type 0) (w new : WorkerStanding P F) (past : WorkerPast)
    → w.waiting ≡ None → new
    ≡ settled_in (record w { round = AtStopping; consumers = lost_among (λ id. true) w.consumers })
    → StandsFor stands w past → StandsFor stands new (Stopped ∷ past)
stop_stands {P} {F} stands w new past free is st =
    let s : WorkerState = worker_after w.made past in
    let S : WorkerStanding P F → Type 0 = λ v. StandsFor stands v (Stopped ∷ past) in
    subst S (sym is) (record {
      orderly = (is_free stands w s free st.shows, st.orderly);
      shows =
          settled_shows stands (record w { round = AtStopping; consumers = lost_among (λ id. true) w.consumers })
          (record s { round = AtStopping; consumers = happens_to (λ k. true) Losing s.consumers }) (record {
            round = refl;
            waiting = st.shows.waiting;
            seen = st.shows.seen;
            held = st.shows.held;
            consumers = lost_stand stands (λ id. true) w.consumers s.consumers st.shows.consumers;
            retired = st.shows.retired;
          });
    })

pub call_stands : {P F : Type 0} (stands : P → List Call → Type 0) (asks : P → List Stored → Ask → Type 0) (asked : Ask)
    (w new : WorkerStanding P F) (cs : List (ConsumerValue P)) (past : WorkerPast)
    → w.waiting ≡ None → FirstCalled stands asks asked w.consumers cs → new ≡ settled_in (record w { consumers = cs })
    → StandsFor stands w past → StandsFor stands new (Made_call asked ∷ past)
call_stands {P} {F} stands asks asked w new cs past free called is st =
    let s : WorkerState = worker_after w.made past in
    let S : WorkerStanding P F → Type 0 = λ v. StandsFor stands v (Made_call asked ∷ past) in
    subst S (sym is) (record {
      orderly = (is_free stands w s free st.shows, st.orderly);
      shows =
          settled_shows stands (record w { consumers = cs })
          (record s { consumers = happens_to_first is_due_known (Called asked) s.consumers }) (record {
            round = st.shows.round;
            waiting = st.shows.waiting;
            seen = st.shows.seen;
            held = st.shows.held;
            consumers = first_called_stand stands asks asked w.consumers cs s.consumers called st.shows.consumers;
            retired = st.shows.retired;
          });
    })

pub uncalled_stands : {P F : Type 0} (stands : P → List Call → Type 0) (asks : P → List Stored → Ask → Type 0)
    (w new : WorkerStanding P F) (cs : List (ConsumerValue P)) (past : WorkerPast)
    → FirstUncalled stands asks w.consumers cs → new ≡ record w { consumers = cs } → StandsFor stands w past
    → StandsFor stands new past
uncalled_stands {P} {F} stands asks w new cs past f is st =
    let s : WorkerState = worker_after w.made past in
    let S : WorkerStanding P F → Type 0 = λ v. StandsFor stands v past in
    subst S (sym is) (record {
      orderly = st.orderly;
      shows = record {
        round = st.shows.round;
        waiting = st.shows.waiting;
        seen = st.shows.seen;
        held = st.shows.held;
        consumers = uncalled_stand stands asks w.consumers cs s.consumers f st.shows.consumers;
        retired = st.shows.retired;
      };
    })

-- ---- The fields that the code has written

pub stop_leaves : {P F : Type 0} (stands : P → List Call → Type 0) (w : WorkerStanding P F)
    (cs : List (ConsumerValue P))
    (rs : List (Retirement P)) (past : WorkerPast) → w.waiting ≡ None
    → cs ≡ live_among (lost_among (λ id. true) w.consumers)
    → rs ≡ w.retired ++ retired_among (lost_among (λ id. true) w.consumers) → StandsFor stands w past
    → StandsFor stands (record w { round = AtStopping; consumers = cs; retired = rs }) (Stopped ∷ past)
stop_leaves stands w cs rs past free live over st =
    stop_stands stands w (record w { round = AtStopping; consumers = cs; retired = rs }) past free
    (λ i. record w { round = AtStopping; consumers = live i; retired = over i }) st

pub call_leaves : {P F : Type 0} (stands : P → List Call → Type 0) (asks : P → List Stored → Ask → Type 0) (asked : Ask)
    (w : WorkerStanding P F) (called cs : List (ConsumerValue P)) (rs : List (Retirement P))
    (past : WorkerPast) → w.waiting ≡ None → FirstCalled stands asks asked w.consumers called → cs ≡ live_among called
    → rs ≡ w.retired ++ retired_among called → StandsFor stands w past
    → StandsFor stands (record w { consumers = cs; retired = rs }) (Made_call asked ∷ past)
call_leaves stands asks asked w called cs rs past free f live over st =
    call_stands stands asks asked w (record w { consumers = cs; retired = rs }) called past free f
    (λ i. record w { consumers = live i; retired = over i }) st

pub on_err_so : {A E : Type 0} (P : Type 0) (r : Result A E) → P → OnErr r P
on_err_so P (Ok x) h = tt
on_err_so P (Err e) h = h
