-- Lists of items whose keys rise: the item of a key stands at the key's index.
use Rattle.std.proofs.Common.{◌≡◌, ℕ, zero, suc, ◌+◌, ◌<◌, ◌≤◌, drop, Bool, true, false, List, [], ◌∷◌, length, Some}
use Rattle.std.proofs.Common.{None, is_some, map, nat_lt, refl, sym, ap, subst, ◌∙◌, arith}
use Rattle.std.specs.Prelude.{◌||◌, cond, not, slice_get, slice_index_or, if◌then◌else◌}
use Rattle.std.specs.List.{list_any, position, position_or_len}
use Rattle.std.specs.List.Sorted.{IsPartitionedBy, IsPartitionPoint}
use Rattle.std.proofs.lemmas.Bool.Decides.{nat_tests}
use Rattle.kds_base.specs.declared.lease_key.ShardRef.{ShardRef}
use Rattle.kds_base.proofs.Facts.{apart}
use Rattle.kds_defs.specs.Keys.{is_before, same_key}
use Rattle.kds_defs.proofs.Keys.{before_both, not_same, not_same_after, after_else, same_ref}
use Rattle.kcl_defs.specs.Plans.{AreRising, IsBeforeFirst}
use Rattle.kcl_defs.specs.Places.{before_next, insertion_index, passes}

-- ---- Keys

before_first : (a b : ShardRef) (keys : List ShardRef) → is_before a b ≡ true → IsBeforeFirst b keys
    → IsBeforeFirst a keys
before_first a b [] h first = tt
before_first a b (k ∷ keys) h first = before_both a b k h first

-- ---- One item more from the end

module _ {X : Type 0} (key_of : X → ShardRef) where
  rising_more : (xs : List X) (i : ℕ) (d : X) → i < length xs
      → before_next key_of (key_of (slice_index_or xs i d)) (slice_get xs (suc i)) ≡ true
      → AreRising (map key_of (drop (suc i) xs)) → AreRising (map key_of (drop i xs))
  rising_more [] i d within h rising = absurd (omega arith)
  rising_more (x ∷ []) zero d within h rising = (tt, tt)
  rising_more (x ∷ y ∷ xs) zero d within h rising = (h, rising)
  rising_more (x ∷ xs) (suc i) d within h rising = rising_more xs i d (omega arith) h rising

  pub rising_back : (xs : List X) (k j : ℕ) (x : X) → suc j ≡ k → k ≤ length xs → x ≡ slice_index_or xs j x
      → before_next key_of (key_of x) (slice_get xs (j + 1)) ≡ true → AreRising (map key_of (drop k xs))
      → AreRising (map key_of (drop j xs))
  rising_back xs k j x e within is h rising =
      let more : j + 1 ≡ suc j = omega arith in
      rising_more xs j x (omega arith)
      (subst (λ (y : X). before_next key_of (key_of y) (slice_get xs (suc j)) ≡ true) is
      (subst (λ n. before_next key_of (key_of x) (slice_get xs n) ≡ true) more h))
      (subst (λ n. AreRising (map key_of (drop n xs))) (sym e) rising)

  -- ---- The index of a key

  -- Whether the item's key comes before `key`.
  abbrev pub comes_before : ShardRef → X → Bool
  comes_before key x = is_before (key_of x) key

  all_at : (key : ShardRef) (xs : List X) (j : ℕ) (d : X) → IsBeforeFirst key (map key_of xs)
      → AreRising (map key_of xs) → j < length xs
      → is_before key (key_of (slice_index_or xs j d)) ≡ true
  all_at key [] j d first rising h = absurd (omega arith)
  all_at key (x ∷ xs) zero d first rising h = first
  all_at key (x ∷ xs) (suc j) d first rising h =
      before_both key (key_of x) (key_of (slice_index_or xs j d)) first
      (all_at (key_of x) xs j d rising.0 rising.1 (omega arith))

  pub partitioned : (key : ShardRef) (xs : List X) → AreRising (map key_of xs) → IsPartitionedBy (comes_before key) xs
  partitioned key [] rising i j d le within is = absurd (omega arith)
  partitioned key (x ∷ xs) rising zero zero d le within is = is
  partitioned key (x ∷ xs) rising zero (suc j) d le within is =
      before_both (key_of x) (key_of (slice_index_or xs j d)) key
      (all_at (key_of x) xs j d rising.0 rising.1 (omega arith)) is
  partitioned key (x ∷ xs) rising (suc i) zero d le within is = absurd (omega arith)
  partitioned key (x ∷ xs) rising (suc i) (suc j) d le within is =
      partitioned key xs rising.1 i j d (omega arith) (omega arith) is

  pub index_is : (key : ShardRef) (xs : List X) (i : ℕ) → i ≤ length xs
      → IsPartitionPoint (λ x. comes_before key x ≡ true) (λ x. comes_before key x ≡ false) xs i
      → i ≡ insertion_index key_of key xs
  index_is key [] i le h = omega arith
  index_is key (x ∷ xs) zero le h =
      ap (λ b. if b then suc (insertion_index key_of key xs) else 0) (sym (h.1 0 x (omega arith) (omega arith)))
  index_is key (x ∷ xs) (suc i) le h =
      let rest = index_is key xs i (omega arith) (
        λ k d low high. h.0 (suc k) d (omega arith) (omega arith),
        λ k d low high. h.1 (suc k) d (omega arith) (omega arith),
      ) in
      ap suc rest
      ∙ ap (λ b. if b then suc (insertion_index key_of key xs) else 0) (sym (h.0 0 x (omega arith) (omega arith)))

  -- ---- The item of a key

  module _ (key : ShardRef) (test : X → Bool) (own : (x : X) → test x ≡ true → same_key (key_of x) key ≡ true) where
    fails : (x : X) (b : Bool) → test x ≡ b → same_key (key_of x) key ≡ false → test x ≡ false
    fails x true is other = absurd (apart (same_key (key_of x) key) (own x is) other)
    fails x false is other = is

    none_after : (xs : List X) → IsBeforeFirst key (map key_of xs) → AreRising (map key_of xs)
        → list_any test xs ≡ false
    none_after [] first rising = refl
    none_after (x ∷ xs) first rising =
        ap (λ b. b || list_any test xs) (fails x (test x) refl (not_same_after (key_of x) key first))
        ∙ none_after xs (before_first key (key_of x) (map key_of xs) first rising.0) rising.1

    first_after : (x : X) (xs : List X) (d : Bool) → is_before (key_of x) key ≡ false → same_key (key_of x) key ≡ d
        → IsBeforeFirst (key_of x) (map key_of xs) → IsBeforeFirst key (map key_of xs)
    first_after x xs true is_earlier same first =
        subst (λ k. IsBeforeFirst k (map key_of xs)) (same_ref (key_of x) key same) first
    first_after x xs false is_earlier same first =
        before_first key (key_of x) (map key_of xs) (after_else (key_of x) key is_earlier same) first

    any_here : (x : X) (xs : List X) (b : Bool) → is_before (key_of x) key ≡ b → AreRising (map key_of (x ∷ xs))
        → list_any test xs ≡ passes test (slice_get xs (insertion_index key_of key xs))
        → (test x || list_any test xs)
        ≡ passes test (slice_get (x ∷ xs) (if b then suc (insertion_index key_of key xs) else 0))
    any_here x xs true is_earlier rising rest =
        ap (λ b. b || list_any test xs) (fails x (test x) refl (not_same (key_of x) key is_earlier)) ∙ rest
    any_here x xs false is_earlier rising rest =
        or_none (test x) (list_any test xs)
        (none_after xs (first_after x xs (same_key (key_of x) key) is_earlier refl rising.0) rising.1)
      where
        or_none : (b c : Bool) → c ≡ false → (b || c) ≡ b
        or_none true c h = refl
        or_none false c h = h

    pub any_there : (xs : List X) → AreRising (map key_of xs)
        → list_any test xs ≡ passes test (slice_get xs (insertion_index key_of key xs))
    any_there [] rising = refl
    any_there (x ∷ xs) rising = any_here x xs (is_before (key_of x) key) refl rising (any_there xs rising.1)

-- ---- Whether an item was found

is_some_if : (t : Bool) (n : ℕ) → is_some (cond t (Some n) None) ≡ t
is_some_if true n = refl
is_some_if false n = refl

lt_zero : (l : ℕ) → nat_lt 0 (suc l) ≡ true
lt_zero l = grind (arith, nat_tests)

lt_more : (n l : ℕ) (b : Bool) → nat_lt n l ≡ b → nat_lt (1 + n) (suc l) ≡ b
lt_more n l true h = grind (arith, nat_tests)
lt_more n l false h = grind (arith, nat_tests)

anywhere_here : (b rest : Bool) (n l : ℕ) → is_some (cond (nat_lt n l) (Some n) None) ≡ rest
    → is_some (cond (nat_lt (cond (not b) (1 + n) 0) (suc l)) (Some (cond (not b) (1 + n) 0)) None) ≡ (b || rest)
anywhere_here true rest n l h = is_some_if (nat_lt 0 (suc l)) 0 ∙ lt_zero l
anywhere_here false rest n l h =
    is_some_if (nat_lt (1 + n) (suc l)) (1 + n) ∙ lt_more n l (nat_lt n l) refl ∙ sym (is_some_if (nat_lt n l) n) ∙ h

pub anywhere : {X : Type 0} (p : X → Bool) (xs : List X) → is_some (position p xs) ≡ list_any p xs
anywhere p [] = refl
anywhere p (x ∷ xs) = anywhere_here (p x) (list_any p xs) (position_or_len p xs) (length xs) (anywhere p xs)

pub any_from : {X : Type 0} (p : X → Bool) (xs : List X) (i : ℕ) → passes p (slice_get xs i) ≡ true
    → list_any p xs ≡ true
any_from p [] i h = absurd cc
any_from p (x ∷ xs) zero h = ap (λ b. b || list_any p xs) h
any_from p (x ∷ xs) (suc i) h = or_true (p x) (list_any p xs) (any_from p xs i h)
  where
    or_true : (b c : Bool) → c ≡ true → (b || c) ≡ true
    or_true true c h = refl
    or_true false c h = h
