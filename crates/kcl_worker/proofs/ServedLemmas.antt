-- The processors were called for the given reads of their tenures.
use Rattle.std.proofs.Common.{ℕ, List, [], ◌∷◌, sym, subst}
use Rattle.std.specs.List.{AllByRecursion}
use Rattle.kds_defs.specs.declared.command.Turn.{Turn}
use Rattle.kcl_defs.specs.declared.consumer.Call.{Call}
use Rattle.kcl_defs.specs.Consumers.{calls_after}
use Rattle.kcl_defs.specs.Lives.{IsLifeIn}
use Rattle.kcl_defs.specs.Workers.{Known, WorkerPast, worker_after}
use Rattle.kcl_defs.specs.WorkerLives.{IsOfTenure, IsToldIn, IsServed, IsServedWhole}
use Rattle.kcl_defs.proofs.RetiredLemmas.{are_served}
use Rattle.kcl_consumer.specs.Standing.{ConsumerValue}
use Rattle.kcl_worker_lists.specs.Lists.{Retirement}
use Rattle.kcl_worker.specs.Standing.{WorkerStanding, ConsumersStand, RetirementsStand, StandsFor, IsRetiredIn}
use Rattle.kcl_worker.specs.Standing.{IsServedIn, AreServedIn}

consumers_served : {P : Type 0} (stands : P → List Call → Type 0) (actor : ℕ) (h : List Turn)
    (cs : List (ConsumerValue P))
    (ks : List Known) → ConsumersStand stands cs ks → AllByRecursion (IsServed actor h) ks
    → AllByRecursion (IsServedIn stands actor h) cs
consumers_served stands actor h [] [] s all = tt
consumers_served stands actor h (c ∷ cs) (k ∷ ks) s all =
    let calls = subst (λ m. stands c.processor (calls_after m k.past)) s.0 s.1.calls in (
      (
        subst (IsOfTenure actor h) (sym s.0) all.0.0,
        (
          calls_after k.made k.past,
          calls,
          subst (λ m. IsLifeIn actor h m (calls_after k.made k.past)) (sym s.0) all.0.1,
        ),
      ),
      consumers_served stands actor h cs ks s.2 all.1,
    )
consumers_served stands actor h [] (k ∷ ks) s all = absurd s
consumers_served stands actor h (c ∷ cs) [] s all = absurd s

retired_served : {P : Type 0} (stands : P → List Call → Type 0) (actor : ℕ) (h : List Turn) (rs : List (Retirement P))
    (ks : List Known) → RetirementsStand stands rs ks → AllByRecursion (IsServedWhole actor h) ks
    → AllByRecursion (IsRetiredIn stands actor h) rs
retired_served stands actor h [] [] s all = tt
retired_served stands actor h (r ∷ rs) (k ∷ ks) s all = (
  (k.made, s.0.key, s.0.tenure, all.0.0, (calls_after k.made k.past, s.0.calls, all.0.1)),
  retired_served stands actor h rs ks s.1 all.1,
)
retired_served stands actor h [] (k ∷ ks) s all = absurd s
retired_served stands actor h (r ∷ rs) [] s all = absurd s

pub worker_served : {P F : Type 0} (stands : P → List Call → Type 0) (actor : ℕ) (h : List Turn)
    (w : WorkerStanding P F)
    (past : WorkerPast) → StandsFor stands w past → IsToldIn actor h w.made past → AreServedIn stands actor h w
worker_served stands actor h w past s is_told =
    let all = are_served actor h w.made past s.orderly is_told in
    record {
      consumers = consumers_served stands actor h w.consumers (worker_after w.made past).consumers s.shows.consumers
          all.consumers;
      retired = retired_served stands actor h w.retired (worker_after w.made past).retired s.shows.retired all.retired;
    }
