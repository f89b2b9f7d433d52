-- What keeps a front a front, and why listings may skip its shards that aren't named.
use Rattle.std.proofs.Common.{◌≡◌, ℕ, zero, suc, ◌+◌, ◌-◌, ◌<◌, ◌≤◌, Bool, true, false, List, [], ◌∷◌, ◌++◌, drop}
use Rattle.std.proofs.Common.{get_or, length, map, Option, Some, None, refl, sym, ap, subst, ◌∙◌, arith, inl, inr}
use Rattle.std.specs.Prelude.{cond, max, not, slice_get, slice_set}
use Rattle.std.specs.List.{filter}
use Rattle.std.proofs.lemmas.Bool.Decides.{nat_tests}
use Rattle.std.proofs.lemmas.List.{append_assoc, map-append}
use Rattle.std.proofs.lemmas.List.Elements.{filter-append}
use Rattle.kds_base.specs.declared.lease_key.ShardRef.{ShardRef}
use Rattle.kds_defs.specs.Keys.{ref}
use Rattle.kds_defs.specs.Listings.{is_after_shard, refs_of}
use Rattle.kds_defs.specs.Shards.{Closing, ShardState, is_closed_below, is_open, listed_among, shown, was_closed_below}
use Rattle.kds_defs.specs.Streams.{floor_of}
use Rattle.kds_tree.specs.Front.{AreLeft, listing, picked, picked_before}
use Rattle.kds_tree.specs.Tree.{is_expired_at}
use Rattle.kds_tree.proofs.Listing.{listing_behind}

still_below : (f g : ℕ) (o : Option Closing) → f ≤ g → was_closed_below f o ≡ true → was_closed_below g o ≡ true
still_below f g None h e = e
still_below f g (Some closing) h e = grind (arith, nat_tests)

-- Expired shards stay expired.
pub later_left : (f g n c : ℕ) (names : List ℕ) (xs : List ShardState) → f ≤ g → AreLeft f n c names xs
    → AreLeft g n c names xs
later_left f g n zero names xs h left = left
later_left f g n (suc c) names [] h left = absurd left
later_left f g n (suc c) [] (x ∷ xs) h left =
    (still_below f g x.closing h left.0, later_left f g (suc n) c [] xs h left.1)
later_left f g n (suc c) (i ∷ names) (x ∷ xs) h (inl a) = inl (a.0, later_left f g (suc n) c names xs h a.1)
later_left f g n (suc c) (i ∷ names) (x ∷ xs) h (inr a) =
    inr (still_below f g x.closing h a.0, later_left f g (suc n) c (i ∷ names) xs h a.1)

passed_left : (f n c : ℕ) (names : List ℕ) (x : ShardState) (xs : List ShardState) → is_closed_below f x ≡ true
    → AreLeft f (suc n) c names xs
    → AreLeft f n (suc c) names (x ∷ xs)
passed_left f n c [] x xs e left = (e, left)
passed_left f n c (i ∷ names) x xs e left = inr (e, left)

shifted : (f n : ℕ) (keep : ℕ → Bool) (x : ShardState) (xs : List ShardState)
    → ((j : ℕ) (y : ShardState) → slice_get (x ∷ xs) j ≡ Some y → keep (n + j) ≡ false → is_closed_below f y ≡ true)
    → (j : ℕ) (y : ShardState) → slice_get xs j ≡ Some y → keep (suc n + j) ≡ false → is_closed_below f y ≡ true
shifted f n keep x xs drops j y is e = let next : n + suc j ≡ suc n + j = omega arith in
    drops (suc j) y is (ap keep next ∙ e)

-- Names of expired shards may be dropped.
pub kept_left : (f n c : ℕ) (keep : ℕ → Bool) (names : List ℕ) (xs : List ShardState)
    → ((j : ℕ) (y : ShardState) → slice_get xs j ≡ Some y → keep (n + j) ≡ false → is_closed_below f y ≡ true)
    → AreLeft f n c names xs → AreLeft f n c (filter keep names) xs
kept_left f n zero keep names xs drops left = ap (filter keep) left
kept_left f n (suc c) keep names [] drops left = absurd left
kept_left f n (suc c) keep [] (x ∷ xs) drops left =
    (left.0, kept_left f (suc n) c keep [] xs (shifted f n keep x xs drops) left.1)
kept_left f n (suc c) keep (i ∷ names) (x ∷ xs) drops (inl a) =
    cases (keep i) refl (kept_left f (suc n) c keep names xs (shifted f n keep x xs drops) a.1)
  where
    cases : (b : Bool) → keep i ≡ b → AreLeft f (suc n) c (filter keep names) xs
        → AreLeft f n (suc c) (cond b (i ∷ filter keep names) (filter keep names)) (x ∷ xs)
    cases true e rest = inl (a.0, rest)
    cases false e rest =
        let same : n + 0 ≡ i = omega (arith, a.0) in
        passed_left f n c (filter keep names) x xs (drops 0 x refl (ap keep same ∙ e)) rest
kept_left f n (suc c) keep (i ∷ names) (x ∷ xs) drops (inr a) =
    passed_left f n c (filter keep (i ∷ names)) x xs a.0
    (kept_left f (suc n) c keep (i ∷ names) xs (shifted f n keep x xs drops) a.1)

pub one_passed : (f n c m : ℕ) (names : List ℕ) (xs : List ShardState) (x : ShardState) → m ≡ c + 1 → c < length xs
    → x ≡ get_or xs c x
    → is_closed_below f x ≡ true → AreLeft f n c names xs → AreLeft f n m names xs
one_passed f n c m names xs x is below is_at e left =
    let next : suc c ≡ m = omega arith in
    subst (λ k. AreLeft f n k names xs) next (longer n c names xs below is_at left)
  where
    longer : (n k : ℕ) (ns : List ℕ) (ys : List ShardState) → k < length ys → x ≡ get_or ys k x → AreLeft f n k ns ys
        → AreLeft f n (suc k) ns ys
    longer n k ns [] below is_at left = absurd (omega arith)
    longer n zero ns (y ∷ ys) below is_at left = passed_left f n 0 ns y ys (ap (is_closed_below f) (sym is_at) ∙ e) left
    longer n (suc k) [] (y ∷ ys) below is_at left = (left.0, longer (suc n) k [] ys (omega arith) is_at left.1)
    longer n (suc k) (i ∷ ns) (y ∷ ys) below is_at (inl a) =
        inl (a.0, longer (suc n) k ns ys (omega arith) is_at a.1)
    longer n (suc k) (i ∷ ns) (y ∷ ys) below is_at (inr a) =
        inr (a.0, longer (suc n) k (i ∷ ns) ys (omega arith) is_at a.1)

pub one_named : (f n c m : ℕ) (names : List ℕ) (xs : List ShardState) → m ≡ c + 1 → c < length xs
    → AreLeft f n c names xs → AreLeft f n m (names ++ (n + c) ∷ []) xs
one_named f n c m names xs is below left =
    let next : suc c ≡ m = omega arith in
    subst (λ k. AreLeft f n k (names ++ (n + c) ∷ []) xs) next (longer n c names xs refl below left)
  where
    longer : (p k : ℕ) (ns : List ℕ) (ys : List ShardState) → n + c ≡ p + k → k < length ys → AreLeft f p k ns ys
        → AreLeft f p (suc k) (ns ++ (n + c) ∷ []) ys
    longer p k ns [] e below left = absurd (omega arith)
    longer p zero ns (y ∷ ys) e below left =
        subst (λ us. AreLeft f p 1 (us ++ (n + c) ∷ []) (y ∷ ys)) (sym left) (inl (omega arith, refl))
    longer p (suc k) [] (y ∷ ys) e below left =
        inr (left.0, longer (suc p) k [] ys (omega arith) (omega arith) left.1)
    longer p (suc k) (i ∷ ns) (y ∷ ys) e below (inl a) =
        inl (a.0, longer (suc p) k ns ys (omega arith) (omega arith) a.1)
    longer p (suc k) (i ∷ ns) (y ∷ ys) e below (inr a) =
        inr (a.0, longer (suc p) k (i ∷ ns) ys (omega arith) (omega arith) a.1)

-- ---- A front stays a front if shards are added at the end, and if open shards are changed

pub left_append : (f n c : ℕ) (names : List ℕ) (xs ys : List ShardState) → AreLeft f n c names xs
    → AreLeft f n c names (xs ++ ys)
left_append f n zero names xs ys left = left
left_append f n (suc c) names [] ys left = absurd left
left_append f n (suc c) [] (x ∷ xs) ys left = (left.0, left_append f (suc n) c [] xs ys left.1)
left_append f n (suc c) (i ∷ names) (x ∷ xs) ys (inl a) = inl (a.0, left_append f (suc n) c names xs ys a.1)
left_append f n (suc c) (i ∷ names) (x ∷ xs) ys (inr a) = inr (a.0, left_append f (suc n) c (i ∷ names) xs ys a.1)

open_or_below : (f : ℕ) (o : Option Closing) (x : ShardState) → x.closing ≡ o → is_open x ≡ true
    → was_closed_below f o ≡ true → ⊥
open_or_below f None x is opened e = absurd cc
open_or_below f (Some closing) x is opened e = absurd cc

open_first : (f : ℕ) (x y : ShardState) (xs : List ShardState) → slice_get (x ∷ xs) 0 ≡ Some y → is_open y ≡ true
    → is_closed_below f x ≡ true → ⊥
open_first f x y xs made opened e = let same : x ≡ y = cc in
    open_or_below f y.closing y refl opened (ap (is_closed_below f) (sym same) ∙ e)

-- An open shard of the front is named.
pub left_set : (f n c i : ℕ) (names : List ℕ) (xs : List ShardState) (x y : ShardState) → slice_get xs i ≡ Some x
    → is_open x ≡ true
    → AreLeft f n c names xs → AreLeft f n c names (slice_set xs i y)
left_set f n zero i names xs x y made opened left = left
left_set f n (suc c) i names [] x y made opened left = absurd left
left_set f n (suc c) zero [] (z ∷ xs) x y made opened left = absurd (open_first f z x xs made opened left.0)
left_set f n (suc c) zero (k ∷ names) (z ∷ xs) x y made opened (inl a) = inl a
left_set f n (suc c) zero (k ∷ names) (z ∷ xs) x y made opened (inr a) = absurd (open_first f z x xs made opened a.0)
left_set f n (suc c) (suc i) [] (z ∷ xs) x y made opened left =
    (left.0, left_set f (suc n) c i [] xs x y made opened left.1)
left_set f n (suc c) (suc i) (k ∷ names) (z ∷ xs) x y made opened (inl a) =
    inl (a.0, left_set f (suc n) c i names xs x y made opened a.1)
left_set f n (suc c) (suc i) (k ∷ names) (z ∷ xs) x y made opened (inr a) =
    inr (a.0, left_set f (suc n) c i (k ∷ names) xs x y made opened a.1)

pub left_sets : (f n c i j : ℕ) (names : List ℕ) (xs : List ShardState) (x v y z : ShardState) → slice_get xs i ≡ Some x
    → is_open x ≡ true
    → slice_get xs j ≡ Some v → is_open v ≡ true → AreLeft f n c names xs
    → AreLeft f n c names (slice_set (slice_set xs i y) j z)
left_sets f n zero i j names xs x v y z made opened made' opened' left = left
left_sets f n (suc c) i j names [] x v y z made opened made' opened' left = absurd left
left_sets f n (suc c) zero j [] (w ∷ xs) x v y z made opened made' opened' left =
    absurd (open_first f w x xs made opened left.0)
left_sets f n (suc c) zero zero (k ∷ names) (w ∷ xs) x v y z made opened made' opened' (inl a) = inl a
left_sets f n (suc c) zero (suc j) (k ∷ names) (w ∷ xs) x v y z made opened made' opened' (inl a) =
    inl (a.0, left_set f (suc n) c j names xs v z made' opened' a.1)
left_sets f n (suc c) zero j (k ∷ names) (w ∷ xs) x v y z made opened made' opened' (inr a) =
    absurd (open_first f w x xs made opened a.0)
left_sets f n (suc c) (suc i) zero [] (w ∷ xs) x v y z made opened made' opened' left =
    absurd (open_first f w v xs made' opened' left.0)
left_sets f n (suc c) (suc i) zero (k ∷ names) (w ∷ xs) x v y z made opened made' opened' (inl a) =
    inl (a.0, left_set f (suc n) c i names xs x y made opened a.1)
left_sets f n (suc c) (suc i) zero (k ∷ names) (w ∷ xs) x v y z made opened made' opened' (inr a) =
    absurd (open_first f w v xs made' opened' a.0)
left_sets f n (suc c) (suc i) (suc j) [] (w ∷ xs) x v y z made opened made' opened' left =
    (left.0, left_sets f (suc n) c i j [] xs x v y z made opened made' opened' left.1)
left_sets f n (suc c) (suc i) (suc j) (k ∷ names) (w ∷ xs) x v y z made opened made' opened' (inl a) =
    inl (a.0, left_sets f (suc n) c i j names xs x v y z made opened made' opened' a.1)
left_sets f n (suc c) (suc i) (suc j) (k ∷ names) (w ∷ xs) x v y z made opened made' opened' (inr a) =
    inr (a.0, left_sets f (suc n) c i j (k ∷ names) xs x v y z made opened made' opened' a.1)

-- ---- The names rise, so those from a number on belong to the shards from this number on

least : (f n c : ℕ) (names : List ℕ) (xs : List ShardState) → AreLeft f n c names xs → (j d : ℕ) → j < length names
    → n ≤ get_or names j d
least f n zero names xs left j d lt = absurd (omega (arith, lt, ap length left))
least f n (suc c) names [] left j d lt = absurd left
least f n (suc c) [] (x ∷ xs) left j d lt = absurd (omega arith)
least f n (suc c) (i ∷ names) (x ∷ xs) (inl a) zero d lt = omega (arith, a.0)
least f n (suc c) (i ∷ names) (x ∷ xs) (inl a) (suc j) d lt =
    omega (arith, least f (suc n) c names xs a.1 j d (omega arith))
least f n (suc c) (i ∷ names) (x ∷ xs) (inr a) j d lt = omega (arith, least f (suc n) c (i ∷ names) xs a.1 j d lt)

pub names_rise : (f n c : ℕ) (names : List ℕ) (xs : List ShardState) → AreLeft f n c names xs
    → (i j d : ℕ) → i ≤ j → j < length names → get_or names i d ≤ get_or names j d
names_rise f n zero names xs left i j d le lt = absurd (omega (arith, lt, ap length left))
names_rise f n (suc c) names [] left i j d le lt = absurd left
names_rise f n (suc c) [] (x ∷ xs) left i j d le lt = absurd (omega arith)
names_rise f n (suc c) (k ∷ names) (x ∷ xs) (inl a) zero zero d le lt = omega arith
names_rise f n (suc c) (k ∷ names) (x ∷ xs) (inl a) zero (suc j) d le lt =
    omega (arith, a.0, least f (suc n) c names xs a.1 j d (omega arith))
names_rise f n (suc c) (k ∷ names) (x ∷ xs) (inl a) (suc i) zero d le lt = absurd (omega arith)
names_rise f n (suc c) (k ∷ names) (x ∷ xs) (inl a) (suc i) (suc j) d le lt =
    names_rise f (suc n) c names xs a.1 i j d (omega arith) (omega arith)
names_rise f n (suc c) (k ∷ names) (x ∷ xs) (inr a) i j d le lt = names_rise f (suc n) c (k ∷ names) xs a.1 i j d le lt

none_left : (index : ℕ) (names : List ℕ) → names ≡ [] → drop index names ≡ []
none_left zero names none = none
none_left (suc index) [] none = refl
none_left (suc index) (i ∷ names) none = absurd cc

nothing_before : (f n c t index : ℕ) (names : List ℕ) (xs : List ShardState) → t ≡ n
    → ((j d : ℕ) → j < index → j < length names → get_or names j d < t)
    → AreLeft f n c names xs → drop index names ≡ names
nothing_before f n c t zero names xs is is_before left = refl
nothing_before f n c t (suc index) [] xs is is_before left = refl
nothing_before f n c t (suc index) (i ∷ names) xs is is_before left =
    absurd (omega (
      arith,
      is,
      is_before 0 i (omega arith) (omega arith),
      least f n c (i ∷ names) xs left 0 i (omega arith),
    ))

pub names_behind : (f n c m t k index : ℕ) (names : List ℕ) (xs : List ShardState) → t ≡ n + m → k ≡ c - m
    → ((j d : ℕ) → j < index → j < length names → get_or names j d < t)
    → ((j d : ℕ) → index ≤ j → j < length names → t ≤ get_or names j d)
    → AreLeft f n c names xs → AreLeft f t k (drop index names) (drop m xs)
names_behind f n c zero t k index names xs is_t is_k is_before is_from left =
    let e : n ≡ t = omega arith in
    let g : c ≡ k = omega arith in
    subst (λ us. AreLeft f t k us xs) (sym (nothing_before f n c t index names xs (sym e) is_before left))
    (subst (λ a. AreLeft f a k names xs) e (subst (λ b. AreLeft f n b names xs) g left))
names_behind f n zero (suc m) t k index names xs is_t is_k is_before is_from left =
    let g : 0 ≡ k = omega arith in
    subst (λ b. AreLeft f t b (drop index names) (drop (suc m) xs)) g (none_left index names left)
names_behind f n (suc c) (suc m) t k index names [] is_t is_k is_before is_from left = absurd left
names_behind f n (suc c) (suc m) t k index [] (x ∷ xs) is_t is_k is_before is_from left =
    names_behind f (suc n) c m t k index [] xs (omega arith) (omega arith) is_before is_from left.1
names_behind f n (suc c) (suc m) t k zero (i ∷ names) (x ∷ xs) is_t is_k is_before is_from (inl a) =
    absurd (omega (arith, is_t, a.0, is_from 0 i (omega arith) (omega arith)))
names_behind f n (suc c) (suc m) t k (suc index) (i ∷ names) (x ∷ xs) is_t is_k is_before is_from (inl a) =
    names_behind f (suc n) c m t k index names xs (omega arith) (omega arith)
    (λ j d lt within. is_before (suc j) d (omega arith) (omega arith))
    (λ j d le within. is_from (suc j) d (omega arith) (omega arith)) a.1
names_behind f n (suc c) (suc m) t k index (i ∷ names) (x ∷ xs) is_t is_k is_before is_from (inr a) =
    names_behind f (suc n) c m t k index (i ∷ names) xs (omega arith) (omega arith) is_before is_from a.1

-- ---- Listings skip the shards of the front that aren't named

listed_left : (f n c : ℕ) (names : List ℕ) (xs all : List ShardState)
    → ((j : ℕ) → slice_get all (n + j) ≡ slice_get xs j) → AreLeft f n c names xs
    → listed_among f (picked names all ++ drop c xs) ≡ listed_among f xs
listed_left f n zero names xs all is_at left = ap (λ us. listed_among f (picked us all ++ xs)) left
listed_left f n (suc c) names [] all is_at left = absurd left
listed_left f n (suc c) [] (x ∷ xs) all is_at left =
    listed_left f (suc n) c [] xs all (next_at n x xs all is_at) left.1
    ∙ sym (ap (λ b. cond (not b) (x ∷ listed_among f xs) (listed_among f xs)) left.0)
  where
    next_at : (n : ℕ) (x : ShardState) (xs all : List ShardState)
        → ((j : ℕ) → slice_get all (n + j) ≡ slice_get (x ∷ xs) j)
        → (j : ℕ) → slice_get all (suc n + j) ≡ slice_get xs j
    next_at n x xs all is_at j = let e : suc n + j ≡ n + suc j = omega arith in ap (slice_get all) e ∙ is_at (suc j)
listed_left f n (suc c) (i ∷ names) (x ∷ xs) all is_at (inl a) =
    let here : i ≡ n + 0 = omega (arith, a.0) in
    ap (λ o. listed_among f (picked_before o (picked names all) ++ drop c xs)) (ap (slice_get all) here ∙ is_at 0)
    ∙ ap (λ us. cond (not (is_closed_below f x)) (x ∷ us) us)
    (listed_left f (suc n) c names xs all (λ j. let e : suc n + j ≡ n + suc j = omega arith in
    ap (slice_get all) e ∙ is_at (suc j)) a.1)
listed_left f n (suc c) (i ∷ names) (x ∷ xs) all is_at (inr a) =
    listed_left f (suc n) c (i ∷ names) xs all (λ j. let e : suc n + j ≡ n + suc j = omega arith in
    ap (slice_get all) e ∙ is_at (suc j)) a.1
    ∙ sym (ap (λ b. cond (not b) (x ∷ listed_among f xs) (listed_among f xs)) a.0)

get_drop : (n j : ℕ) (xs : List ShardState) → slice_get xs (n + j) ≡ slice_get (drop n xs) j
get_drop zero j xs = let e : 0 + j ≡ j = omega arith in ap (slice_get xs) e
get_drop (suc n) j [] = let e : suc n + j ≡ suc (n + j) = omega arith in ap (slice_get []) e
get_drop (suc n) j (x ∷ xs) = let e : suc n + j ≡ suc (n + j) = omega arith in
    ap (slice_get (x ∷ xs)) e ∙ get_drop n j xs

drop_twice : (a b : ℕ) (xs : List ShardState) → drop b (drop a xs) ≡ drop (a + b) xs
drop_twice zero b xs = let e : b ≡ 0 + b = omega arith in ap (λ k. drop k xs) e
drop_twice (suc a) zero [] = let e : suc a ≡ suc a + 0 = omega arith in ap (λ (k : ℕ). drop k []) e
drop_twice (suc a) (suc b) [] = let e : suc (a + suc b) ≡ suc a + suc b = omega arith in ap (λ (k : ℕ). drop k []) e
drop_twice (suc a) b (x ∷ xs) = let e : suc (a + b) ≡ suc a + b = omega arith in
    drop_twice a b xs ∙ ap (λ k. drop k (x ∷ xs)) e

-- A listing needs only the named shards of the front and the shards after it.
pub listing_left : (cut after : Option ℕ) (xs : List ShardState) (names : List ℕ) (c start m : ℕ)
    → AreLeft (floor_of cut) start (c - start) names (drop start xs) → m ≡ max start c
    → drop start xs ≡ filter (is_after_shard after) xs
    → listing cut (picked names xs ++ drop m xs)
    ≡ map shown (filter (is_after_shard after) (listed_among (floor_of cut) xs))
listing_left cut after xs names c start m left is behind =
    let e : m ≡ start + (c - start) = omega arith in
    ap (λ k. listing cut (picked names xs ++ drop k xs)) e
    ∙ ap (λ us. listing cut (picked names xs ++ us)) (sym (drop_twice start (c - start) xs))
    ∙ ap (map shown) (listed_left (floor_of cut) start (c - start) names (drop start xs) xs (λ j. get_drop start j xs)
    left)
    ∙ listing_behind cut after xs (drop start xs) behind

pub keys_left : (s f c : ℕ) (names : List ℕ) (xs : List ShardState) (keys now new : List ShardRef)
    → AreLeft f 0 c names xs
    → now ≡ keys ++ refs_of s (listed_among f (picked names xs))
    → new ≡ now ++ refs_of s (listed_among f (drop c xs))
    → new ≡ keys ++ refs_of s (listed_among f xs)
keys_left s f c names xs keys now new left is_now is_new =
    let first = picked names xs in
    is_new
    ∙ ap (λ ks. ks ++ refs_of s (listed_among f (drop c xs))) is_now
    ∙ append_assoc keys (refs_of s (listed_among f first)) (refs_of s (listed_among f (drop c xs)))
    ∙ ap (λ ks. keys ++ ks)
    (sym (map-append (λ (x : ShardState). ref s x.no) (listed_among f first) (listed_among f (drop c xs)))
    ∙ ap (refs_of s)
    (sym (filter-append _ first (drop c xs))
    ∙ listed_left f 0 c names xs xs (λ j. let e : 0 + j ≡ j = omega arith in ap (slice_get xs) e) left))

pub left_within : (f n c : ℕ) (names : List ℕ) (xs : List ShardState) → AreLeft f n c names xs → c ≤ length xs
left_within f n zero names xs left = omega arith
left_within f n (suc c) names [] left = absurd left
left_within f n (suc c) [] (x ∷ xs) left = omega (arith, left_within f (suc n) c [] xs left.1)
left_within f n (suc c) (i ∷ names) (x ∷ xs) (inl a) = omega (arith, left_within f (suc n) c names xs a.1)
left_within f n (suc c) (i ∷ names) (x ∷ xs) (inr a) = omega (arith, left_within f (suc n) c (i ∷ names) xs a.1)

was_true : (f j : ℕ) (o : Option ShardState) (x : ShardState) → o ≡ Some x → not (is_expired_at f o) ≡ false
    → is_closed_below f x ≡ true
was_true f j None x is e = absurd cc
was_true f j (Some y) x is e = let same : y ≡ x = cc in
    ap (is_closed_below f) (sym same) ∙ not_false (is_closed_below f y) e
  where
    not_false : (b : Bool) → not b ≡ false → b ≡ true
    not_false true e = refl
    not_false false e = absurd cc

pub drops_expired : (f : ℕ) (xs : List ShardState) (j : ℕ) (x : ShardState) → slice_get xs j ≡ Some x
    → not (is_expired_at f (slice_get xs (0 + j))) ≡ false → is_closed_below f x ≡ true
drops_expired f xs j x is e = let same : 0 + j ≡ j = omega arith in
    was_true f j (slice_get xs j) x is (sym (ap (λ k. not (is_expired_at f (slice_get xs k))) same) ∙ e)
