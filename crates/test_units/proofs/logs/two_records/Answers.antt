use Rattle.std.proofs.Common.{◌≡◌, ℕ, ◌≤◌, List, [], ◌∷◌, ◌++◌, sym, subst, ap, ◌∙◌, arith}
use Rattle.std.specs.List.{AllByRecursion}
use Rattle.kds_defs.specs.Records.{Logged}
use Rattle.kds_log.specs.Log.{LogValue}
use Rattle.test_units.proofs.logs.two_records.Goals as goal

of_one : (new old : List Logged) (r : Logged) (moment : ℕ) → new ≡ old ++ r ∷ [] → old ≡ [] → r.arrival ≤ moment
    → AllByRecursion (λ (x : Logged). x.arrival ≤ moment) new
of_one new old r moment is none early =
    subst (AllByRecursion (λ (x : Logged). x.arrival ≤ moment))
    (sym (is ∙ ap (λ (xs : List Logged). xs ++ r ∷ []) none)) (early, tt)

pub append-requires-2-clause-arrival : goal.append-requires-2-clause-arrival
append-requires-2-clause-arrival c =
    of_one _ _ _ _ (ap (λ (l : LogValue). l.kept) c.in_ok-append.ensures.ok)
    (ap (λ (l : LogValue). l.kept) c.new-log.ensures) (omega arith)
