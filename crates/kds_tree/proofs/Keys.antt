-- The hash keys in the list of starts are the first keys of the open shards, in rising order.
use Rattle.std.proofs.Common.{◌≡◌, ℕ, suc, ◌+◌, ◌<◌, ◌≤◌, Bool, true, false, List, [], ◌∷◌, length, get_or, map, refl}
use Rattle.std.proofs.Common.{sym, ap, subst, ◌∙◌, arith}
use Rattle.std.specs.Prelude.{cond, ◌==◌, nat_lt}
use Rattle.std.specs.List.{filter}
use Rattle.std.specs.List.Sorted.{IsNonDecreasingBy}
use Rattle.kds_base.proofs.Facts.{is_itself, is_other}
use Rattle.kds_defs.specs.Scaling.{RiseFrom, with_start}
use Rattle.kds_defs.specs.ScaleCommands.{starts_among}
use Rattle.kds_defs.specs.Shards.{ShardState, is_open}
use Rattle.kds_defs.proofs.Rising.{lower, one_of}
use Rattle.kds_tree.specs.Starts.{AreStarts, own_start, starting_keys}
use Rattle.kds_tree.specs.Tree.{IsTree}
use Rattle.kds_tree.specs.declared.start.OpenStart.{OpenStart}
use Rattle.kds_tree.proofs.Risings.{tree_rises}

-- ---- Two lists that never fall are equal if each key is equally often in both

-- How often the key is in the list.
abbrev times : ℕ → List ℕ → ℕ
times k [] = 0
times k (x ∷ xs) = cond (x == k) 1 0 + times k xs

-- The numbers never fall, from `n` or above.
abbrev NoneFalls : ℕ → List ℕ → Type 0
NoneFalls n [] = Unit {0}
NoneFalls n (x ∷ xs) = (n ≤ x) × NoneFalls x xs

none_falls_rising : (n : ℕ) (xs : List ℕ) → RiseFrom n xs → NoneFalls n xs
none_falls_rising n [] r = tt
none_falls_rising n (x ∷ xs) r = (r.0, none_falls_rising x xs (lower x (x + 1) xs (omega arith) r.1))

never_below : (n k : ℕ) (xs : List ℕ) → NoneFalls n xs → k < n → times k xs ≡ 0
never_below n k [] h below = refl
never_below n k (x ∷ xs) h below =
    let none : cond (x == k) 1 0 + 0 ≡ 0 =
    ap (λ (b : Bool). cond b 1 0 + 0) (is_other x k (λ (e : x ≡ k). absurd (omega (arith, e, h.0, below)))) in
    omega (arith, none, never_below x k xs h.1 (omega (arith, h.0, below)))

first_times : (x : ℕ) (xs : List ℕ) → times x (x ∷ xs) ≡ 1 + times x xs
first_times x xs = ap (λ (b : Bool). cond b 1 0 + times x xs) (is_itself x)

not_less : (x y : ℕ) (xs ys : List ℕ) → NoneFalls y ys → times x (x ∷ xs) ≡ times x (y ∷ ys) → x < y → ⊥
not_less x y xs ys t e below =
    absurd (omega (arith, e, first_times x xs, never_below y x (y ∷ ys) (omega arith, t) below))

same_tail : (x y k : ℕ) (xs ys : List ℕ) → x ≡ y → times k (x ∷ xs) ≡ times k (y ∷ ys) → times k xs ≡ times k ys
same_tail x y k xs ys same e = let c : cond (x == k) 1 0 + 0 ≡ cond (y == k) 1 0 + 0 =
    ap (λ (z : ℕ). cond (z == k) 1 0 + 0) same in omega arith

same_lists : (n : ℕ) (xs ys : List ℕ) → NoneFalls n xs → NoneFalls n ys → ((k : ℕ) → times k xs ≡ times k ys) → xs ≡ ys
same_lists n [] [] r t e = refl
same_lists n [] (y ∷ ys) r t e = absurd (omega (arith, e y, first_times y ys))
same_lists n (x ∷ xs) [] r t e = absurd (omega (arith, e x, first_times x xs))
same_lists n (x ∷ xs) (y ∷ ys) r t e =
    let same : x ≡ y = one_of x y (not_less x y xs ys t.1 (e x)) (not_less y x ys xs r.1 (sym (e y))) in
    ap (λ (zs : List ℕ). x ∷ zs)
    (same_lists x xs ys r.1 (subst (λ (z : ℕ). NoneFalls z ys) (sym same) t.1)
    (λ k. same_tail x y k xs ys same (e k)))
    ∙ ap (λ (z : ℕ). z ∷ ys) same

-- ---- How often a list has a key

times_by : (lt : Bool) (k b x : ℕ) (xs more : List ℕ) → times k more ≡ cond (b == k) 1 0 + times k xs
    → times k (cond lt (b ∷ x ∷ xs) (x ∷ more)) ≡ cond (b == k) 1 0 + times k (x ∷ xs)
times_by true k b x xs more h = refl
times_by false k b x xs more h = omega arith

times_with : (k b : ℕ) (xs : List ℕ) → times k (with_start b xs) ≡ cond (b == k) 1 0 + times k xs
times_with k b [] = refl
times_with k b (x ∷ xs) = times_by (nat_lt b x) k b x xs (with_start b xs) (times_with k b xs)

-- Whether the start has this key.
abbrev has_key : ℕ → OpenStart → Bool
has_key k s = s.key == k

counted : (b : Bool) (s : OpenStart) (ss : List OpenStart) (n : ℕ) → n ≡ length ss
    → cond b 1 0 + n ≡ length (cond b (s ∷ ss) ss)
counted true s ss n h = omega arith
counted false s ss n h = omega arith

times_starts : (k : ℕ) (xs : List ShardState)
    → times k (starts_among xs) ≡ length (filter (has_key k) (map own_start xs))
times_starts k [] = refl
times_starts k (x ∷ xs) =
    times_with k x.range.start (starts_among xs)
    ∙ counted (x.range.start == k) (own_start x) (filter (has_key k) (map own_start xs)) (times k (starts_among xs))
    (times_starts k xs)

times_keys : (k : ℕ) (ss : List OpenStart) → times k (starting_keys ss) ≡ length (filter (has_key k) ss)
times_keys k [] = refl
times_keys k (s ∷ ss) = counted (s.key == k) s (filter (has_key k) ss) (times k (starting_keys ss)) (times_keys k ss)

-- ---- The keys of the starts never fall

none_falls : (n : ℕ) (ss : List OpenStart) → IsNonDecreasingBy (λ (s : OpenStart). s.key) ss
    → ((d : OpenStart) → 0 < length ss → n ≤ (get_or ss 0 d).key)
    → NoneFalls n (starting_keys ss)
none_falls n [] order above = tt
none_falls n (s ∷ ss) order above =
    let later : IsNonDecreasingBy (λ (t : OpenStart). t.key) ss =
    λ i j d le within. order (suc i) (suc j) d (omega arith) (omega arith) in
    (above s (omega arith), none_falls s.key ss later (λ d some. order 0 1 d (omega arith) (omega arith)))

pub same_keys : (ss : List OpenStart) (xs : List ShardState) → AreStarts ss xs → IsTree xs
    → starting_keys ss ≡ starts_among (filter is_open xs)
same_keys ss xs starts tree =
    same_lists 0 (starting_keys ss) (starts_among (filter is_open xs))
    (none_falls 0 ss starts.order (λ d some. omega arith))
    (none_falls_rising 0 (starts_among (filter is_open xs)) (tree_rises xs tree))
    (λ k. times_keys k ss ∙ starts.many (has_key k) ∙ sym (times_starts k (filter is_open xs)))
