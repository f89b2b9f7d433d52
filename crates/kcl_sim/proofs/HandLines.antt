-- A line that hands off a lease leads to the run that `with_line` defines.
use Rattle.std.proofs.Common.{◌≡◌, ℕ, Bool, zero, suc, true, false, List, [], ◌∷◌, ◌++◌, length, Some, None, codes}
use Rattle.std.proofs.Common.{refl, sym, ap, subst, ◌∙◌, inr}
use Rattle.std.specs.Prelude.{option_map, slice_get, slice_set}
use Rattle.kds_base.specs.declared.lease_key.ShardRef.{ShardRef}
use Rattle.kcl_defs.specs.declared.plans.Held.{Held}
use Rattle.kcl_defs.specs.Consumers.{stage_after}
use Rattle.kcl_defs.specs.Workers.{Release, released, worker_after}
use Rattle.kcl_consumer.specs.Standing.{ConsumerValue}
use Rattle.kcl_hand.proofs.Handings.{lost_leaves}
use Rattle.kcl_hand.specs.Handing.{HandPast}
use Rattle.kcl_hand.specs.Joints.{hand_of, worker_past}
use Rattle.kcl_hand.specs.Runs.{hand_run, with_hand}
use Rattle.kcl_hand.specs.Standing.{BeginsHand, IsLeaving, StandsFor}
use Rattle.kcl_proc.specs.declared.stock.Stock.{Stock}
use Rattle.kcl_proc.specs.Stocks.{StandsFor as Calls, asked_of}
use Rattle.kcl_script.specs.declared.line.Line.TheVariants as line
use Rattle.kcl_worker.specs.Adding.{AddsRelease, ReleasesNone}
use Rattle.kcl_worker.specs.Standing.{StandsFor as WorkerStands}
use Rattle.kcl_sim.specs.Hands.{Handing, IsHandOf, RanFirst, RanToEnd}
use Rattle.kcl_sim.specs.Keeping.{if_wanted}
use Rattle.kcl_sim.specs.Output.{Ran, hand_output, history_at, run_text, with_handed, with_release}
use Rattle.kcl_sim.specs.Standing.{EmployAll, Employs, GoesOn, MayHaveBroken, RunsSo, SimValue, Stepped, index_among}
use Rattle.kcl_sim.specs.Workers.{Employed, index_of, release_by}
use Rattle.kcl_sim.proofs.Employing.{employ_length, nobody}
use Rattle.kcl_sim.proofs.HandTelling.{worker_past_hand}
use Rattle.kcl_sim.proofs.Running.{replaced, works}

-- ---- A worker releases a lease

-- A release of `key` by `e` began the hand-off `v` and left the worker `now`, whatever events the hand-off has.
pub record IsReleased (key : ShardRef) (e : Employed) (now : Stepped) (v : Handing) : Type 0 where
  pub release : Release
  pub which : release_by key (Some e) ≡ Some release
  pub hand : IsHandOf v (hand_of release [])
  pub worker : (events : HandPast) → Employs now (record e { past = with_hand key events e.made e.past })

-- A worker that released the lease satisfies `IsReleased` for every trace that it stood for.
pub released_so : (was now : Stepped) (key : ShardRef) (h : Held) (c : ConsumerValue Stock) (v : Handing)
    → AddsRelease Calls was now key (h, c)
    → now.made ≡ was.made → now.maker ≡ was.maker
    → v.held ≡ h → v.consumer.made ≡ c.made → BeginsHand Calls c v → (e : Employed) → Employs was e
    → IsReleased key e now v
released_so was now key h c v adds made maker held of_it begins e s =
    let r = adds (worker_past e.past) s.stands in
    let stands : StandsFor Calls v (hand_of r.release []).before [] = begins r.release.known.past r.consumer in
    record {
      release = r.release;
      which = ap (λ m. released key (worker_after m (worker_past e.past))) (sym s.made) ∙ r.which;
      hand = record {
        held = held ∙ r.held;
        made = of_it ∙ r.made;
        stands = stands;
        leaving = subst IsLeaving (sym stands.consumer.stage)
            (lost_leaves (stage_after v.consumer.made r.release.known.past));
      };
      worker = λ events. record {
        made = made ∙ s.made;
        kind = λ batch. ap (λ m. asked_of m batch) maker ∙ s.kind batch;
        stands = subst (WorkerStands Calls now) (sym (worker_past_hand key events e.made e.past)) r.rest;
      };
    }

-- ---- Nothing is released

pub nobody_hands : (wanted : Bool) (old new : SimValue) (ran : Ran) (moment actor : ℕ) (key : ShardRef)
    (earlier after : List ℕ)
    → RunsSo old ran
    → old.unfinished ≡ false → new ≡ old
    → index_among actor (length old.workers) ≡ None
    → after ≡ earlier ++ if_wanted wanted (codes "none" ++ 10 ∷ [])
    → GoesOn wanted new ran (line.Hand moment actor key) earlier after
nobody_hands wanted old new ran moment actor key earlier after s going same none wrote =
    let is = nobody actor (length old.workers) ran.workers (employ_length old.workers ran.workers (s.workers going))
    none in
    record {
      made = subst (λ o. RunsSo new (with_handed ran moment actor key o)) (sym is)
          (subst (λ v. RunsSo v ran) (sym same) s);
      wrote = wrote ∙ ap (λ o. earlier ++ if_wanted wanted (hand_output ran.history moment actor (release_by key o)))
          (sym is);
      going = ap (λ (v : SimValue). v.unfinished) same ∙ going;
    }

set_same : (ws : List Stepped) (index : ℕ) (w : Stepped) → slice_get ws index ≡ Some w → slice_set ws index w ≡ ws
set_same [] index w is = refl
set_same (v ∷ ws) zero w is = let same : v ≡ w = cc in ap (λ u. u ∷ ws) (sym same)
set_same (v ∷ ws) (suc index) w is = ap (λ us. v ∷ us) (set_same ws index w is)

pub nothing_hands : (wanted : Bool) (old new : SimValue) (ran : Ran) (moment actor index : ℕ) (key : ShardRef)
    (was now : Stepped) (earlier after : List ℕ)
    → RunsSo old ran
    → old.unfinished ≡ false → index_among actor (length old.workers) ≡ Some index
    → slice_get old.workers index ≡ Some was → new ≡ record old { workers = slice_set old.workers index now }
    → now ≡ was → ReleasesNone Calls was key
    → after ≡ earlier ++ if_wanted wanted (codes "none" ++ 10 ∷ [])
    → GoesOn wanted new ran (line.Hand moment actor key) earlier after
nothing_hands wanted old new ran moment actor index key was now earlier after s going there stood is kept releases
    wrote =
    let w = works old ran actor index was s going there stood in
    let none : release_by key (Some w.e) ≡ None =
    ap (λ m. released key (worker_after m (worker_past w.e.past))) (sym w.employs.made)
    ∙ releases (worker_past w.e.past) w.employs.stands in
    let same : new ≡ old =
    is ∙ ap (λ ws. record old { workers = ws }) (ap (slice_set old.workers index) kept
    ∙ set_same old.workers index was stood) in
    record {
      made = subst (λ o. RunsSo new (with_handed ran moment actor key o)) (sym w.is)
          (subst (λ o. RunsSo new (with_release ran moment actor key w.e o)) (sym none)
          (subst (λ v. RunsSo v ran) (sym same) s));
      wrote = wrote ∙ ap (λ o. earlier ++ if_wanted wanted (hand_output ran.history moment actor o)) (sym none)
          ∙ ap (λ o. earlier ++ if_wanted wanted (hand_output ran.history moment actor (release_by key o)))
          (sym w.is);
      going = ap (λ (v : SimValue). v.unfinished) same ∙ going;
    }

-- ---- The hand-off ran to its end

pub hand_goes : (wanted : Bool) (old mid now new : SimValue) (ran : Ran) (moment actor index : ℕ) (key : ShardRef)
    (was next : Stepped) (v : Handing) (earlier after : List ℕ)
    → RunsSo old ran → old.unfinished ≡ false
    → index_among actor (length old.workers) ≡ Some index → slice_get old.workers index ≡ Some was
    → ((e : Employed) → Employs was e → IsReleased key e next v)
    → mid ≡ record old { workers = slice_set old.workers index next; unfinished = true }
    → RanToEnd wanted moment actor mid now v earlier after → now.workers ≡ mid.workers
    → new ≡ record now { unfinished = false }
    → GoesOn wanted new ran (line.Hand moment actor key) earlier after
hand_goes wanted old mid now new ran moment actor index key was next v earlier after s going there stood releases mid_is
    t kept
    new_is =
    let w = works old ran actor index was s going there stood in
    let r = releases w.e w.employs in
    let first : mid.history ≡ ran.history = ap (λ (z : SimValue). z.history) mid_is ∙ s.history in
    let run = hand_run moment actor ran.history (hand_of r.release []) in
    let x : Employed = record w.e { past = with_hand key run.hand.since w.e.made w.e.past } in
    let workers : new.workers ≡ slice_set old.workers index next =
    ap (λ (z : SimValue). z.workers) new_is ∙ kept ∙ ap (λ (z : SimValue). z.workers) mid_is in
    record {
      made = subst (λ o. RunsSo new (with_handed ran moment actor key o)) (sym w.is)
          (subst (λ o. RunsSo new (with_release ran moment actor key w.e o)) (sym r.which)
          (record {
            history = ap (λ (z : SimValue). z.history) new_is ∙ t.history (hand_of r.release []) r.hand ∙
                ap (λ h. (hand_run moment actor h (hand_of r.release [])).history) first;
            workers = λ g. subst (λ ws. EmployAll ws (slice_set ran.workers (index_of actor) x)) (sym workers)
                (replaced old ran actor index was next x w (r.worker run.hand.since));
          }));
      wrote = t.wrote (hand_of r.release []) r.hand
          ∙ ap (λ h. earlier ++ if_wanted wanted (run_text (hand_run moment actor h (hand_of r.release [])))) first
          ∙ ap (λ o. earlier ++ if_wanted wanted (hand_output ran.history moment actor o)) (sym r.which)
          ∙ ap (λ o. earlier ++ if_wanted wanted (hand_output ran.history moment actor (release_by key o))) (sym w.is);
      going = ap (λ (z : SimValue). z.unfinished) new_is;
    }

-- ---- Out of memory

pub hand_may : (old mid new : SimValue) (ran : Ran) (moment actor index : ℕ) (key : ShardRef) (was next : Stepped)
    (v : Handing) → RunsSo old ran → old.unfinished ≡ false
    → index_among actor (length old.workers) ≡ Some index → slice_get old.workers index ≡ Some was
    → ((e : Employed) → Employs was e → IsReleased key e next v)
    → mid ≡ record old { workers = slice_set old.workers index next; unfinished = true }
    → RanFirst moment actor mid new v
    → new.unfinished ≡ true
    → MayHaveBroken new ran (line.Hand moment actor key)
hand_may old mid new ran moment actor index key was next v s going there stood releases mid_is t unfinished =
    let w = works old ran actor index was s going there stood in
    let r = releases w.e w.employs in
    let first : mid.history ≡ ran.history = ap (λ (z : SimValue). z.history) mid_is ∙ s.history in
    let n = t.ran_of_it in
    inr (record {
      ran_of_it = n;
      few = t.few;
      history = ap (λ o. option_map (history_at n ran.history moment actor) (release_by key o)) w.is
          ∙ ap (option_map (history_at n ran.history moment actor)) r.which
          ∙ ap Some (sym (t.history (hand_of r.release []) r.hand
          ∙ ap (λ h. history_at n h moment actor r.release) first));
      unfinished = unfinished;
    })
