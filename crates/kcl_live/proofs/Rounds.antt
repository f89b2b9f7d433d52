-- In a round a worker makes its due calls and one turn; it is going before its stop, and finishing after it.
use Rattle.std.proofs.Common.{◌≡◌, ℕ, ◌+◌, ◌*◌, ◌≤◌, false, List, [], ◌∷◌, length, None, refl, sym, ap, subst, ◌∙◌}
use Rattle.std.proofs.Common.{arith, inl}
use Rattle.std.specs.Prelude.{IsSome}
use Rattle.kcl_defs.specs.declared.consumer.Ask.{Ask}
use Rattle.kcl_defs.specs.declared.consumer.Call.{Call}
use Rattle.kcl_defs.specs.Workers.{Gave_command, Got_answer, Stopped, WorkerPast, is_due_known, is_idle, is_stopping}
use Rattle.kcl_defs.specs.Workers.{worker_after}
use Rattle.kcl_worker_lists.specs.Lists.{due_in}
use Rattle.std.specs.List.{find}
use Rattle.kcl_worker.specs.Adding.{AddsStop}
use Rattle.kcl_worker.specs.Standing.{StandsFor, WorkerStanding, is_idle_in}
use Rattle.kds_turn.specs.declared.pass.TurnErr.{TurnErr}
use Rattle.kds_turn.specs.declared.pass.TurnErr.TheVariants as failed
use Rattle.kds_turn.specs.Passes.{PassValue}
use Rattle.kcl_live.specs.Records.{HasAdded, IsDriven, turns_in, with_calls}
use Rattle.kcl_live.specs.Runs.{HasRun, WasCut}
use Rattle.kcl_live.specs.Steps.{HasTurned, IsFinishing, IsGoing, IsStopped, turns_left}
use Rattle.kcl_live.proofs.Bounds.{answered_on, calls_on, few_in}
use Rattle.kcl_live.proofs.Driven.{driven_called, driven_new, driven_stopped}
use Rattle.kcl_worker.proofs.Outlooks.{idle_same, none_due}
use Rattle.kcl_live.proofs.Ending.{not_idle}
use Rattle.kcl_live.proofs.Stopping.{calls_stopped, filter_fewer, some_left, stop_stops, turn_stopped}

module _ {P F : Type 0} (stands : P → List Call → Type 0) where
  -- Only processor calls happened between the two workers.
  abbrev pub HasCalled : WorkerStanding P F → WorkerStanding P F → Type 0
  HasCalled w u = (past : WorkerPast) → StandsFor stands w past → (asked : List Ask)
      × StandsFor stands u (with_calls asked past)

  -- ---- Before the stop

  pub going_new : (w : WorkerStanding P F) (p : PassValue) → StandsFor stands w [] → p.own ≡ [] → IsGoing stands w p
  going_new w p stood none = record {
    past = [];
    driven = driven_new stands p.by p.seen p.own w stood none;
    alone = λ some. absurd (omega (arith, some, ap length none));
    going = refl;
  }

  pub going_called : (w u : WorkerStanding P F) (p : PassValue) → u.made ≡ w.made → HasCalled w u → IsGoing stands w p
      → IsGoing stands u p
  going_called w u p made called g =
      let r = called g.past g.driven.stood in
      record {
        past = with_calls r.0 g.past;
        driven = driven_called stands p.by p.seen p.own w u g.past r.0 made r.1 g.driven;
        alone = g.alone;
        going = ap (λ m. is_stopping (worker_after m (with_calls r.0 g.past)).round) made
            ∙ calls_on w.made r.0 g.past g.going;
      }

  pub going_busy : (w : WorkerStanding P F) (p : PassValue) → IsGoing stands w p → is_idle_in w ≡ false
  going_busy w p g = not_idle stands w g.past g.driven.stood g.going

  pub going_turned : (u v : WorkerStanding P F) (p q : PassValue) (moment : ℕ) → v.made ≡ u.made
      → ((past : WorkerPast) → IsDriven stands p.by p.seen p.own u past → HasTurned stands q v moment past)
      → IsGoing stands u p → IsGoing stands v q
  going_turned u v p q moment made turned g =
      let t = turned g.past g.driven in
      let later : WorkerPast = Got_answer moment t.answer ∷ (Gave_command moment ∷ g.past) in
      record {
        past = later;
        driven = t.driven;
        alone = λ some. t.alone;
        going = ap (λ m. is_stopping (worker_after m later).round) made
            ∙ answered_on u.made moment moment t.answer g.past g.going;
      }

  pub going_failed : (w u : WorkerStanding P F) (p : PassValue) (e : TurnErr) → u.made ≡ w.made → HasCalled w u
      → IsGoing stands w p → IsSome (due_in u.consumers) → e ≡ failed.Memory → WasCut stands u p e
  going_failed w u p e made called g due is =
      let h = going_called w u p made called g in
      inl (record { error = is; due = due; run = record { past = h.past; driven = h.driven; alone = h.alone } })

  -- ---- The stop

  -- Stopped after `turns` turns, the worker makes at most 3 * `turns` in all.
  pub going_stopped : (w u : WorkerStanding P F) (p : PassValue) (turns : ℕ) → u.made ≡ w.made → AddsStop stands w u
      → length p.own ≡ turns → IsGoing stands w p → IsFinishing stands u p (3 * turns)
  going_stopped w u p turns made stop count g =
      let past : WorkerPast = Stopped ∷ g.past in
      let driven = driven_stopped stands p.by p.seen p.own w u g.past made (stop g.past g.driven.stood) g.driven in
      let few = few_in p.by u.made past in
      let same : length (turns_in p.by u.made past) ≡ turns = sym (ap length driven.own_are) ∙ count in
      record {
        past = past;
        driven = driven;
        alone = g.alone;
        stopped = stop_stops u.made g.past;
        few = omega (arith, few.consumers, few.held, same, count, filter_fewer (worker_after u.made past).consumers);
      }

  -- ---- After the stop

  pub finishing_called : (w u : WorkerStanding P F) (p : PassValue) (most : ℕ) → u.made ≡ w.made → HasCalled w u
      → IsFinishing stands w p most → IsFinishing stands u p most
  finishing_called w u p most made called f =
      let r = called f.past f.driven.stood in
      let s = calls_stopped w.made r.0 f.past f.stopped in
      let past = with_calls r.0 f.past in
      let less : turns_left (worker_after u.made past) ≤ turns_left (worker_after w.made f.past) =
      subst (λ m. turns_left (worker_after m past) ≤ turns_left (worker_after w.made f.past)) (sym made) s.1 in
      record {
        past = past;
        driven = driven_called stands p.by p.seen p.own w u f.past r.0 made r.1 f.driven;
        alone = f.alone;
        stopped = subst (λ m. IsStopped (worker_after m past)) (sym made) s.0;
        few = omega (arith, f.few, less);
      }

  quiet : (w : WorkerStanding P F) (p : PassValue) (most : ℕ) → (f : IsFinishing stands w p most)
      → due_in w.consumers ≡ None → find is_due_known (worker_after w.made f.past).consumers ≡ None
  quiet w p most f none =
      none_due stands w.consumers (worker_after w.made f.past).consumers none f.driven.stood.shows.consumers

  busy : (w : WorkerStanding P F) (p : PassValue) (most : ℕ) → (f : IsFinishing stands w p most) → is_idle_in w ≡ false
      → is_idle (worker_after w.made f.past) ≡ false
  busy w p most f is = sym (idle_same stands w f.past f.driven.stood) ∙ is

  -- A finishing worker without a due call that isn't idle has a turn left.
  pub finishing_left : (w : WorkerStanding P F) (p : PassValue) (most : ℕ) → IsFinishing stands w p most
      → due_in w.consumers ≡ None → is_idle_in w ≡ false → length p.own + 1 ≤ most
  finishing_left w p most f none is =
      omega (arith, f.few, some_left w.made f.past f.stopped (quiet w p most f none) (busy w p most f is))

  pub finishing_turned : (u v : WorkerStanding P F) (p q : PassValue) (most moment : ℕ) → v.made ≡ u.made
      → due_in u.consumers ≡ None → is_idle_in u ≡ false → HasAdded moment p.own q.own
      → ((past : WorkerPast) → IsDriven stands p.by p.seen p.own u past → HasTurned stands q v moment past)
      → IsFinishing stands u p most → IsFinishing stands v q most
  finishing_turned u v p q most moment made none is added turned f =
      let t = turned f.past f.driven in
      let later : WorkerPast = Got_answer moment t.answer ∷ (Gave_command moment ∷ f.past) in
      let s = turn_stopped u.made moment t.answer f.past f.stopped (quiet u p most f none) (busy u p most f is) in
      let less : turns_left (worker_after v.made later) + 1 ≤ turns_left (worker_after u.made f.past) =
      subst (λ m. turns_left (worker_after m later) + 1 ≤ turns_left (worker_after u.made f.past)) (sym made) s.1 in
      record {
        past = later;
        driven = t.driven;
        alone = λ some. t.alone;
        stopped = subst (λ m. IsStopped (worker_after m later)) (sym made) s.0;
        few = omega (arith, f.few, less, ap length added.1);
      }

  pub finishing_run : (w : WorkerStanding P F) (p : PassValue) (most : ℕ) → IsFinishing stands w p most
      → HasRun stands w p
  finishing_run w p most f = record { past = f.past; driven = f.driven; alone = f.alone }

  pub finishing_failed : (w u : WorkerStanding P F) (p : PassValue) (most : ℕ) (e : TurnErr) → u.made ≡ w.made
      → HasCalled w u → IsFinishing stands w p most → IsSome (due_in u.consumers) → e ≡ failed.Memory
      → WasCut stands u p e
  finishing_failed w u p most e made called f due is =
      inl (record { error = is; due = due; run = finishing_run u p most (finishing_called w u p most made called f) })
