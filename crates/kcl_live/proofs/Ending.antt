-- Due calls and idleness of a worker, from the state after its trace.
use Rattle.std.proofs.Common.{rules, ◌≡◌, false, List, [], ◌∷◌, Option, Some, None, refl, sym, ap, subst, ◌∙◌}
use Rattle.std.specs.Prelude.{◌&&◌, cond, not, is_some, IsSome}
use Rattle.std.specs.List.{find}
use Rattle.kds_base.specs.declared.lease_key.ShardRef.{ShardRef}
use Rattle.kcl_defs.specs.declared.consumer.Call.{Call}
use Rattle.kcl_defs.specs.declared.consumer.Due.{Due}
use Rattle.kcl_defs.specs.Consumers.{due_call}
use Rattle.kcl_defs.specs.Workers.{Known, WorkerPast, is_due_known, is_nothing_held, is_stopping, stage_of_known}
use Rattle.kcl_defs.specs.Workers.{worker_after}
use Rattle.kcl_consumer.specs.Standing.{ConsumerValue}
use Rattle.kcl_worker_lists.specs.Lists.{due_in, due_or}
use Rattle.kcl_worker.proofs.Happenings.{stage_known}
use Rattle.kcl_worker.proofs.Outlooks.{none_due}
use Rattle.kcl_worker.specs.Standing.{ConsumersStand, StandsFor, WorkerStanding, is_due_in, is_giving_in, is_idle_in}

none_due_in : {P : Type 0} (stands : P → List Call → Type 0) (cs : List (ConsumerValue P)) (ks : List Known)
    → find is_due_known ks ≡ None → ConsumersStand stands cs ks → due_in cs ≡ None
none_due_in stands [] [] none s = refl
none_due_in stands [] (k ∷ ks) none s = absurd s
none_due_in stands (c ∷ cs) [] none s = absurd s
none_due_in stands (c ∷ cs) (k ∷ ks) none s =
    head (due_call c.stage) (due_call (stage_of_known k)) (ap due_call (stage_known stands c k (s.0, s.1))) none
    (λ n. none_due_in stands cs ks n s.2)
  where
    head : (o u : Option Due) → o ≡ u → cond (is_some u) (Some k) (find is_due_known ks) ≡ None
        → (find is_due_known ks ≡ None → due_in cs ≡ None) → due_or c o (due_in cs) ≡ None
    head o (Some due) e n rest = absurd cc
    head (Some due) None e n rest = absurd cc
    head None None e n rest = rest n

some_is : {A : Type 0} (x : A) → IsSome (Some x)
some_is x = search rules

pub is_some_of : {A : Type 0} (o u : Option A) (x : A) → o ≡ u → u ≡ Some x → IsSome o
is_some_of o u x e is = subst IsSome (sym (e ∙ is)) (some_is x)

some_due : (o u : Option (ShardRef × Due)) → IsSome o → (u ≡ None → o ≡ None) → IsSome u
some_due o (Some due) some same = due_is
  where
    due_is : IsSome (Some due)
    due_is = search rules
some_due None None some same = some
some_due (Some due) None some same = absurd (no_none (same refl))
  where
    no_none : Some due ≡ None → ⊥
    no_none e = absurd cc

-- Workers that stand for the same trace have due calls alike.
pub due_again : {P F : Type 0} (stands : P → List Call → Type 0) (w v : WorkerStanding P F) (past : WorkerPast)
    → v.made ≡ w.made → StandsFor stands w past → StandsFor stands v past → IsSome (due_in w.consumers)
    → IsSome (due_in v.consumers)
due_again stands w v past made s t some =
    some_due (due_in w.consumers) (due_in v.consumers) some
    (λ none. none_due_in stands w.consumers (worker_after w.made past).consumers
    (ap (λ m. find is_due_known (worker_after m past).consumers) (sym made)
    ∙ none_due stands v.consumers (worker_after v.made past).consumers none t.shows.consumers) s.shows.consumers)

pub not_idle : {P F : Type 0} (stands : P → List Call → Type 0) (w : WorkerStanding P F) (past : WorkerPast)
    → StandsFor stands w past → is_stopping (worker_after w.made past).round ≡ false → is_idle_in w ≡ false
not_idle stands w past s going =
    ap (λ b. b && not (is_due_in w) && not (is_giving_in w) && is_nothing_held w.held) (ap is_stopping s.shows.round
    ∙ going)
