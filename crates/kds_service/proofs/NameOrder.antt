-- Names that the code has sorted are the names in the order of the definition.
use Rattle.std.proofs.Common.{◌≡◌, ℕ, suc, ◌+◌, ◌<◌, ◌≤◌, Bool, true, false, List, [], ◌∷◌, ◌++◌, length, drop, map}
use Rattle.std.proofs.Common.{get_or, slice_get, Some, Bor, refl, sym, ap, subst, ◌∙◌, arith}
use Rattle.std.specs.Cmp.{IsStrictWeakOrder, tied_itself}
use Rattle.std.specs.Cmp.Lexicographic.{bytes_decides, nat_list_cmp_total, slice_cmp, texts_ties}
use Rattle.std.specs.List.{sum_by}
use Rattle.std.specs.List.Sorted.{IsPermutation, IsSortedBy}
use Rattle.std.specs.Ordering.{is_eq, is_lt, nat_cmp, ordering_reverse}
use Rattle.std.specs.Prelude.{if◌then◌else◌}
use Rattle.std.specs.declared.cmp.Ordering.{Ordering}
use Rattle.std.specs.declared.cmp.Ordering.TheVariants.{Less, Equal, Greater}
use Rattle.std.proofs.lemmas.List.{append-nil, append_assoc, drop_all, map-append}
use Rattle.std.proofs.lemmas.List.Sorted.{IsPermutation-map, ranks_by, sorted_far, sum_by-IsPermutation}
use Rattle.std.proofs.lemmas.List.Sums.{sum_by-cons}
use Rattle.kds_defs.specs.Listings.{is_less, name_before, names_in_order, with_name}
use Rattle.kds_stream.specs.Value.{StreamValue}
use Rattle.kds_service.proofs.Lists.{drop_get}
use Rattle.kds_service.specs.Shown.{names_of}

-- ---- The order of two names

pub less : (o : Ordering) → is_lt o ≡ is_less o
less Less = refl
less Equal = refl
less Greater = refl

-- Whether the name in `a` comes before the name in `b`.
abbrev pub shown_before : Bor (List ℕ) → Bor (List ℕ) → Bool
shown_before a b = name_before a.now b.now

pub before_orders : {X : Type 0} (name : X → List ℕ) → IsStrictWeakOrder (λ x y. name_before (name x) (name y))
before_orders name = subst (λ (test : Ordering → Bool).
    IsStrictWeakOrder (λ x y. test (slice_cmp nat_cmp (name x) (name y)))) (λ i o. less o i)
    (ranks_by nat_list_cmp_total name)

order : IsStrictWeakOrder name_before
order = before_orders (λ name. name)

not_itself : (name : List ℕ) → name_before name name ≡ false
not_itself name = ap is_less (tied_itself nat_list_cmp_total name)

one_name : (a b : List ℕ) → slice_cmp nat_cmp a b ≡ Equal → a ≡ b
one_name a b tied = (bytes_decides a b).0 (texts_ties a b ∙ ap is_eq tied)

-- ---- Names that rise

-- No name of the list comes before `name`.
abbrev NotBefore : List ℕ → List (List ℕ) → Type 0
NotBefore name [] = Unit {0}
NotBefore name (n ∷ ns) = (name_before n name ≡ false) × NotBefore name ns

-- The names are sorted: none comes before an earlier one.
abbrev AreRising : List (List ℕ) → Type 0
AreRising [] = Unit {0}
AreRising (n ∷ ns) = NotBefore n ns × AreRising ns

not_before_with : (low name : List ℕ) (ns : List (List ℕ)) → name_before name low ≡ false → NotBefore low ns
    → NotBefore low (with_name name ns)
not_before_with low name [] h rest = (h, tt)
not_before_with low name (n ∷ ns) h rest = cases (name_before name n) (not_before_with low name ns h rest.1)
  where
    cases : (b : Bool) → NotBefore low (with_name name ns)
        → NotBefore low (if b then name ∷ n ∷ ns else n ∷ with_name name ns)
    cases true more = (h, rest)
    cases false more = (rest.0, more)

not_before_lower : (low name : List ℕ) (ns : List (List ℕ)) → name_before name low ≡ false → NotBefore name ns
    → NotBefore low ns
not_before_lower low name [] h rest = tt
not_before_lower low name (n ∷ ns) h rest = (order.chain n name low rest.0 h, not_before_lower low name ns h rest.1)

rising_with : (name : List ℕ) (ns : List (List ℕ)) → AreRising ns → AreRising (with_name name ns)
rising_with name [] up = (tt, tt)
rising_with name (n ∷ ns) up = cases (name_before name n) refl (rising_with name ns up.1)
  where
    cases : (b : Bool) → name_before name n ≡ b → AreRising (with_name name ns)
        → AreRising (if b then name ∷ n ∷ ns else n ∷ with_name name ns)
    cases true h more =
        let after = order.one_way name n h in
        ((after, not_before_lower name n ns after up.0), up)
    cases false h more = (not_before_with n name ns h up.0, more)

in_order_rise : (ns : List (List ℕ)) → AreRising (names_in_order ns)
in_order_rise [] = tt
in_order_rise (n ∷ ns) = rising_with n (names_in_order ns) (in_order_rise ns)

-- ---- How many names come before a name

sum_with : (f : List ℕ → ℕ) (name : List ℕ) (ns : List (List ℕ)) → sum_by f (with_name name ns) ≡ f name + sum_by f ns
sum_with f name [] = sum_by-cons f name []
sum_with f name (n ∷ ns) = cases (name_before name n) (sum_with f name ns)
  where
    cases : (b : Bool) → sum_by f (with_name name ns) ≡ f name + sum_by f ns
        → sum_by f (if b then name ∷ n ∷ ns else n ∷ with_name name ns) ≡ f name + sum_by f (n ∷ ns)
    cases true h = sum_by-cons f name (n ∷ ns)
    cases false h = omega (arith, sum_by-cons f n (with_name name ns), h, sum_by-cons f n ns)

sum_in_order : (f : List ℕ → ℕ) (ns : List (List ℕ)) → sum_by f (names_in_order ns) ≡ sum_by f ns
sum_in_order f [] = refl
sum_in_order f (n ∷ ns) = omega (arith, sum_with f n (names_in_order ns), sum_in_order f ns, sum_by-cons f n ns)

-- The number 1 if `n` comes before `name`, and otherwise 0.
abbrev before : List ℕ → List ℕ → ℕ
before name n = if name_before n name then 1 else 0

none_before : (name : List ℕ) (ns : List (List ℕ)) → NotBefore name ns → sum_by (before name) ns ≡ 0
none_before name [] rest = refl
none_before name (n ∷ ns) rest =
    let here : before name n ≡ 0 = ap (λ b. if b then 1 else 0) rest.0 in
    omega (arith, sum_by-cons (before name) n ns, here, none_before name ns rest.1)

-- ---- Sorted lists are equal if as many of their names come before each name

first_not_before : (x y : List ℕ) (xs ys : List (List ℕ)) → NotBefore y ys
    → sum_by (before y) (x ∷ xs) ≡ sum_by (before y) (y ∷ ys) → name_before x y ≡ true → ⊥
first_not_before x y xs ys rest same h =
    let one : before y x ≡ 1 = ap (λ b. if b then 1 else 0) h in
    let none = none_before y (y ∷ ys) (not_itself y, rest) in
    absurd (omega (arith, sum_by-cons (before y) x xs, one, same, none))

same_names : (xs ys : List (List ℕ)) → AreRising xs → AreRising ys → ((f : List ℕ → ℕ) → sum_by f xs ≡ sum_by f ys)
    → xs ≡ ys
same_names [] [] up up' same = refl
same_names [] (y ∷ ys) up up' same = absurd (omega (arith, same (λ n. 1), sum_by-cons (λ n. 1) y ys))
same_names (x ∷ xs) [] up up' same = absurd (omega (arith, same (λ n. 1), sum_by-cons (λ n. 1) x xs))
same_names (x ∷ xs) (y ∷ ys) up up' same =
    let is : x ≡ y = first (slice_cmp nat_cmp x y) refl in
    let rest : xs ≡ ys = same_names xs ys up.1 up'.1 (λ f. omega (
      arith,
      same f,
      sum_by-cons f x xs,
      sum_by-cons f y ys,
      ap f is,
    )) in
    ap (λ n. n ∷ xs) is ∙ ap (λ ns. y ∷ ns) rest
  where
    first : (o : Ordering) → slice_cmp nat_cmp x y ≡ o → x ≡ y
    first Less h = absurd (first_not_before x y xs ys up'.0 (same (before y)) (ap is_less h))
    first Equal h = one_name x y h
    first Greater h = absurd
        (first_not_before y x ys xs up.0 (sym (same (before x)))
        (ap is_less (nat_list_cmp_total.antisymm y x ∙ ap ordering_reverse h)))

-- ---- References to names

shown_not_before : (x : Bor (List ℕ)) (xs : List (Bor (List ℕ)))
    → ((k : ℕ) → k < length xs → shown_before (get_or xs k x) x ≡ false) → NotBefore x.now (map (λ n. n.now) xs)
shown_not_before x [] h = tt
shown_not_before x (y ∷ ys) h = (h 0 (omega arith), shown_not_before x ys (λ k below. h (suc k) (omega arith)))

shown_rise : (xs : List (Bor (List ℕ)))
    → ((i j : ℕ) (d : Bor (List ℕ)) → i ≤ j → j < length xs → shown_before (get_or xs j d) (get_or xs i d) ≡ false)
    → AreRising (map (λ n. n.now) xs)
shown_rise [] h = tt
shown_rise (x ∷ xs) h = (
  shown_not_before x xs (λ k below. h 0 (suc k) x (omega arith) (omega arith)),
  shown_rise xs (λ i j d up below. h (suc i) (suc j) d (omega arith) (omega arith)),
)

pub sorted_names : (xs ys : List (Bor (List ℕ))) → IsPermutation xs ys → IsSortedBy shown_before ys
    → map (λ n. n.now) ys ≡ names_in_order (map (λ n. n.now) xs)
sorted_names xs ys moved sorted =
    let names : List (List ℕ) = map (λ n. n.now) xs in
    same_names (map (λ n. n.now) ys) (names_in_order names)
    (shown_rise ys (sorted_far shown_before (before_orders (λ (n : Bor (List ℕ)). n.now)) ys sorted))
    (in_order_rise names)
    (λ f. sum_by-IsPermutation f names (map (λ n. n.now) ys)
    (IsPermutation-map (λ (n : Bor (List ℕ)). n.now) xs ys moved) ∙ sym (sum_in_order f names))

pub names_step : (vs : List StreamValue) (i : ℕ) (x : StreamValue) (name : Bor (List ℕ))
    (so_far more : List (Bor (List ℕ))) → slice_get vs i ≡ Some x → name.now ≡ x.name → more ≡ so_far ++ name ∷ []
    → map (λ n. n.now) more ++ names_of (drop (i + 1) vs) ≡ map (λ n. n.now) so_far ++ names_of (drop i vs)
names_step vs i x name so_far more here named pushed =
    let left : List (List ℕ) = names_of (drop (i + 1) vs) in
    ap (λ ns. map (λ n. n.now) ns ++ left) pushed
    ∙ ap (λ ns. ns ++ left) (map-append (λ n. n.now) so_far (name ∷ []))
    ∙ append_assoc (map (λ n. n.now) so_far) (name.now ∷ []) left
    ∙ ap (λ n. map (λ n. n.now) so_far ++ n ∷ left) named
    ∙ ap (λ us. map (λ n. n.now) so_far ++ names_of us) (sym (drop_get vs i x here))

pub names_done : (vs : List StreamValue) (i : ℕ) (names : List (Bor (List ℕ))) → length vs ≤ i
    → map (λ n. n.now) names ++ names_of (drop i vs) ≡ names_of vs → map (λ n. n.now) names ≡ names_of vs
names_done vs i names past all =
    sym (append-nil (map (λ n. n.now) names))
    ∙ ap (λ us. map (λ n. n.now) names ++ names_of us) (sym (drop_all i vs past)) ∙ all
