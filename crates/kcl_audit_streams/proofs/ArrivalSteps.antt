-- The search for a first arrival may skip the records that arrived too early.
use Rattle.std.proofs.Common.{◌≡◌, ℕ, zero, suc, ◌-◌, ◌<◌, ◌≤◌, Bool, true, false, List, [], ◌∷◌, length, get_or, max}
use Rattle.std.proofs.Common.{drop, take, refl, sym, ap, ◌∙◌, arith, ltb-true}
use Rattle.std.specs.Prelude.{nat_le, nat_lt, cond, ◌&&◌}
use Rattle.std.specs.List.Sorted.{IsPartitionPoint}
use Rattle.std.proofs.lemmas.Bool.Decides.{nat_tests}
use Rattle.std.proofs.lemmas.List.{length-drop, take_all}
use Rattle.kds_defs.specs.Records.{Logged, first_at, is_left}
use Rattle.kcl_audit_streams.specs.declared.records.Sized.{Sized}
use Rattle.kcl_audit_streams.specs.Standing.{is_in, logged}
use Rattle.kcl_audit_streams.proofs.BatchSteps.{left_by, left_in}

-- The first untrimmed record of the shard that arrived at or after the moment, or `otherwise`.
abbrev first_in : ℕ → ℕ → ℕ → ℕ → List Sized → ℕ
first_in sh floor moment otherwise xs = first_at (left_in sh floor 0 xs) moment otherwise

skipped : (a b c : Bool) (r : Logged) (rs : List Logged) (moment otherwise : ℕ) → nat_le moment r.arrival ≡ c
    → (b ≡ true → c ≡ true → ⊥)
    → first_at (cond (a && b) (r ∷ rs) rs) moment otherwise ≡ first_at rs moment otherwise
skipped false b c r rs moment otherwise e never = refl
skipped true false c r rs moment otherwise e never = refl
skipped true true false r rs moment otherwise e never = rw e refl
skipped true true true r rs moment otherwise e never = absurd (never refl refl)

too_early : (floor moment : ℕ) (x : Sized) → x.arrival < max floor moment → is_left floor 0 (logged x) ≡ true
    → nat_le moment x.arrival ≡ true → ⊥
too_early floor moment x lt left le = grind (arith, nat_tests)

past_one : (sh floor moment otherwise : ℕ) (x : Sized) (xs : List Sized) → x.arrival < max floor moment
    → first_in sh floor moment otherwise (x ∷ xs) ≡ first_in sh floor moment otherwise xs
past_one sh floor moment otherwise x xs lt =
    ap (λ (rs : List Logged). first_at rs moment otherwise)
    (left_by sh floor 0 x xs (is_in sh x) (is_left floor 0 (logged x)) refl refl)
    ∙ skipped (is_in sh x) (is_left floor 0 (logged x)) (nat_le moment x.arrival) (logged x) (left_in sh floor 0 xs)
    moment otherwise refl (too_early floor moment x lt)

first_behind : (sh floor moment otherwise : ℕ) (xs : List Sized) (i : ℕ)
    → ((k : ℕ) (d : Sized) → k < i → k < length xs → (get_or xs k d).arrival < max floor moment)
    → first_in sh floor moment otherwise (drop i xs) ≡ first_in sh floor moment otherwise xs
first_behind sh floor moment otherwise xs zero h = refl
first_behind sh floor moment otherwise [] (suc i) h = refl
first_behind sh floor moment otherwise (x ∷ xs) (suc i) h =
    first_behind sh floor moment otherwise xs i (λ k d low lt. h (suc k) d (omega arith) (omega arith))
    ∙ sym (past_one sh floor moment otherwise x xs (h 0 x (omega arith) (omega arith)))

pub first_from : (sh floor moment otherwise least : ℕ) (xs : List Sized) (i : ℕ) → max floor moment ≡ least
    → IsPartitionPoint (λ (y : Sized). nat_lt y.arrival least ≡ true)
    (λ (y : Sized). nat_lt y.arrival least ≡ false) xs i
    → first_in sh floor moment otherwise (take (length xs - i) (drop i xs)) ≡ first_in sh floor moment otherwise xs
first_from sh floor moment otherwise least xs i is point =
    let all : length (drop i xs) ≤ length xs - i = (let e = length-drop i xs in omega arith) in
    ap (first_in sh floor moment otherwise) (take_all (length xs - i) (drop i xs) all)
    ∙ first_behind sh floor moment otherwise xs i
    (λ k d low lt. let low_one : (get_or xs k d).arrival < least = ltb-true _ _ (point.0 k d (omega arith) low) in
    omega arith)
