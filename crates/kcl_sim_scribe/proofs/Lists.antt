-- General facts about lists: search, filter and map.
use Rattle.std.proofs.Common.{◌≡◌, ℕ, zero, suc, ◌+◌, ◌≤◌, List, [], ◌∷◌, ◌++◌, length, map, take, drop, Bool, true}
use Rattle.std.proofs.Common.{Some, refl, ap, ◌∙◌, arith, inl, inr, subst}
use Rattle.std.proofs.lemmas.Bool.{cases_Bool}
use Rattle.std.proofs.lemmas.List.{append-nil, drop_all, take_all}
use Rattle.std.specs.List.{AllByRecursion, filter, find}
use Rattle.std.specs.Prelude.{◌&&◌}
use Rattle.kds_defs.specs.Streams.{numbers_from}

pub found_is : {A : Type 0} (P : A → Type 0) (p : A → Bool) (xs : List A) (x : A) → AllByRecursion P xs
    → find p xs ≡ Some x → P x
found_is P p [] x all h = absurd (cc)
found_is P p (y ∷ ys) x all h = elim (cases_Bool (p y)) [
  | inl here ↦ let e : Some y ≡ Some x = rw here at h in let same : y ≡ x = cc in subst (λ z. P z) same all.0
  | inr there ↦ let e : find p ys ≡ Some x = rw there at h in found_is P p ys x all.1 e
]

pub mapped : {A B : Type 0} (P : A → Type 0) (Q : B → Type 0) (f : A → B) (xs : List A) → ((x : A) → P x → Q (f x))
    → AllByRecursion P xs
    → AllByRecursion Q (map f xs)
mapped P Q f [] each all = tt
mapped P Q f (x ∷ xs) each all = (each x all.0, mapped P Q f xs each all.1)

pub unmapped : {A B : Type 0} (Q : B → Type 0) (f : A → B) (xs : List A) → AllByRecursion Q (map f xs)
    → AllByRecursion (λ x. Q (f x)) xs
unmapped Q f [] all = tt
unmapped Q f (x ∷ xs) all = (all.0, unmapped Q f xs all.1)

pub both_tests : {A : Type 0} (p q : A → Bool) (xs : List A) → filter (λ x. q x && p x) xs ≡ filter q (filter p xs)
both_tests p q [] = refl
both_tests p q (x ∷ xs) = grind (arith, both_tests p q xs)

pub same_kept : {A : Type 0} (p q : A → Bool) (xs : List A) → AllByRecursion (λ x. p x ≡ q x) xs
    → filter p xs ≡ filter q xs
same_kept p q [] all = refl
same_kept p q (x ∷ xs) all = grind (arith, all.0, same_kept p q xs all.1)

-- ---- Numbers

pub up_to : (n count most : ℕ) → n + count ≤ most + 1 → AllByRecursion (λ s. s ≤ most) (numbers_from n count)
up_to n zero most h = tt
up_to n (suc count) most h = (omega arith, up_to (n + 1) count most (omega arith))

pub one_more : (n count : ℕ) → numbers_from n (suc count) ≡ numbers_from n count ++ (n + count) ∷ []
one_more n zero = let e : n ≡ n + 0 = omega arith in ap (λ m. m ∷ []) e
one_more n (suc count) =
    let e : n + 1 + count ≡ n + suc count = omega arith in
    ap (λ ns. n ∷ ns) (one_more (n + 1) count ∙ ap (λ m. numbers_from (n + 1) count ++ m ∷ []) e)

-- ---- A loop over a list

pub all_done : {A : Type 0} (f : A → A) (xs : List A) (i : ℕ) → length xs ≤ i
    → map f (take i xs) ++ drop i xs ≡ map f xs
all_done f xs i h = (λ j. map f (take_all i xs h j) ++ drop_all i xs h j) ∙ append-nil (map f xs)

pub all_kept : {A : Type 0} (xs : List A) → filter (λ x. true) xs ≡ xs
all_kept [] = refl
all_kept (x ∷ xs) = ap (λ ys. x ∷ ys) (all_kept xs)
