-- The search for records left may skip those below the position, which come first.
use Rattle.std.proofs.Common.{◌≡◌, ℕ, zero, suc, ◌-◌, ◌<◌, ◌≤◌, Bool, true, false, List, [], ◌∷◌, length, get_or}
use Rattle.std.proofs.Common.{drop, take, refl, sym, ap, ◌∙◌, arith, ltb-true}
use Rattle.std.specs.Prelude.{nat_lt}
use Rattle.std.specs.List.Sorted.{IsPartitionPoint}
use Rattle.std.proofs.lemmas.Bool.Decides.{nat_tests}
use Rattle.std.proofs.lemmas.List.{length-drop, take_all}
use Rattle.kcl_audit_streams.specs.declared.records.Sized.{Sized}
use Rattle.kcl_audit_streams.specs.Standing.{is_in}
use Rattle.kcl_audit_streams.proofs.BatchSteps.{left_in}

-- ---- Positions

past_one : (sh floor position : ℕ) (x : Sized) (xs : List Sized) (b : Bool) → is_in sh x ≡ b → x.seq < position
    → left_in sh floor position (x ∷ xs) ≡ left_in sh floor position xs
past_one sh floor position x xs b e lt = grind (arith, nat_tests, e)

pub left_behind : (sh floor position : ℕ) (xs : List Sized) (i : ℕ)
    → ((k : ℕ) (d : Sized) → k < i → k < length xs → (get_or xs k d).seq < position)
    → left_in sh floor position (drop i xs) ≡ left_in sh floor position xs
left_behind sh floor position xs zero h = refl
left_behind sh floor position [] (suc i) h = refl
left_behind sh floor position (x ∷ xs) (suc i) h =
    left_behind sh floor position xs i (λ k d low lt. h (suc k) d (omega arith) (omega arith))
    ∙ sym (past_one sh floor position x xs (is_in sh x) refl (h 0 x (omega arith) (omega arith)))

pub left_from : (sh floor position : ℕ) (xs : List Sized) (i : ℕ)
    → IsPartitionPoint (λ (y : Sized). nat_lt y.seq position ≡ true) (λ (y : Sized). nat_lt y.seq position ≡ false) xs i
    → left_in sh floor position (take (length xs - i) (drop i xs)) ≡ left_in sh floor position xs
left_from sh floor position xs i point =
    let all : length (drop i xs) ≤ length xs - i = (let e = length-drop i xs in omega arith) in
    ap (left_in sh floor position) (take_all (length xs - i) (drop i xs) all)
    ∙ left_behind sh floor position xs i (λ k d low lt. ltb-true _ _ (point.0 k d (omega arith) low))

-- ---- Arrivals

past_early : (sh floor position : ℕ) (x : Sized) (xs : List Sized) (b : Bool) → is_in sh x ≡ b → x.arrival < floor
    → left_in sh floor position (x ∷ xs) ≡ left_in sh floor position xs
past_early sh floor position x xs b e lt = grind (arith, nat_tests, e)

early_behind : (sh floor position : ℕ) (xs : List Sized) (i : ℕ)
    → ((k : ℕ) (d : Sized) → k < i → k < length xs → (get_or xs k d).arrival < floor)
    → left_in sh floor position (drop i xs) ≡ left_in sh floor position xs
early_behind sh floor position xs zero h = refl
early_behind sh floor position [] (suc i) h = refl
early_behind sh floor position (x ∷ xs) (suc i) h =
    early_behind sh floor position xs i (λ k d low lt. h (suc k) d (omega arith) (omega arith))
    ∙ sym (past_early sh floor position x xs (is_in sh x) refl (h 0 x (omega arith) (omega arith)))

pub left_since : (sh floor position : ℕ) (xs : List Sized) (i : ℕ)
    → IsPartitionPoint (λ (y : Sized). nat_lt y.arrival floor ≡ true) (λ (y : Sized). nat_lt y.arrival floor ≡ false)
    xs i
    → left_in sh floor position (take (length xs - i) (drop i xs)) ≡ left_in sh floor position xs
left_since sh floor position xs i point =
    let all : length (drop i xs) ≤ length xs - i = (let e = length-drop i xs in omega arith) in
    ap (left_in sh floor position) (take_all (length xs - i) (drop i xs) all)
    ∙ early_behind sh floor position xs i (λ k d low lt. ltb-true _ _ (point.0 k d (omega arith) low))
