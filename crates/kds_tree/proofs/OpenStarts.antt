-- The list of starts is right for a new stream, and stays right after splits and merges.
use Rattle.std.proofs.Common.{◌≡◌, inl, inr, ℕ, zero, suc, ◌+◌, ◌<◌, Bool, true, false, List, [], ◌∷◌, ◌++◌, length}
use Rattle.std.proofs.Common.{get_or, map, Some, refl, sym, ap, subst, ◌∙◌, arith}
use Rattle.std.specs.Prelude.{◌≢◌, ◌⊎◌, ◌==◌, ◌&&◌, not, slice_get, cond}
use Rattle.std.specs.List.{All, AllByRecursion, Contains, filter}
use Rattle.std.specs.List.Sorted.{IsNonDecreasingBy, IsPermutation}
use Rattle.std.proofs.lemmas.Bool.Decides.{nat_tests}
use Rattle.std.proofs.lemmas.List.{length-append}
use Rattle.std.proofs.lemmas.List.Elements.{All-append, All-filter, All-from_recursion, Contains-append_left}
use Rattle.std.proofs.lemmas.List.Elements.{Contains-append_right, filter-append, filter_passes}
use Rattle.std.proofs.lemmas.List.Sorted.{All-permutation, Contains-permutation, sum_by-IsPermutation}
use Rattle.std.proofs.lemmas.List.Sums.{length-filter}
use Rattle.kds_base.proofs.Facts.{apart}
use Rattle.kds_defs.specs.Shards.{ShardState, Closing, is_open, with_closed}
use Rattle.kds_defs.specs.Tiled.{AreNumbered}
use Rattle.kds_defs.proofs.Numbers.{numbered-closed, length-closed}
use Rattle.kds_tree.specs.Starts.{IsStart, AreOf, AreStarts, open_starts, own_start, open_start_of, stays}
use Rattle.kds_tree.specs.declared.start.OpenStart.{OpenStart}
use Rattle.kds_tree.proofs.Homes.{number_at}

-- ---- How many starts pass a test

tally : (OpenStart → Bool) → List OpenStart → ℕ
tally p ss = length (filter p ss)

tally_same : (p : OpenStart → Bool) (ss ts : List OpenStart) → IsPermutation ss ts → tally p ts ≡ tally p ss
unfolding tally
tally_same p ss ts same = length-filter p ts ∙ sum_by-IsPermutation (λ s. cond (p s) 1 0) ss ts same
    ∙ sym (length-filter p ss)

tally-append : (p : OpenStart → Bool) (ss ts : List OpenStart) → tally p (ss ++ ts) ≡ tally p ss + tally p ts
unfolding tally
tally-append p ss ts = ap length (filter-append p ss ts) ∙ length-append (filter p ss) (filter p ts)

filter_step : (p : OpenStart → Bool) (b c : Bool) (s : OpenStart) (ss ts : List OpenStart) → p s ≡ c → filter p ss ≡ ts
    → filter p (cond b (s ∷ ss) ss) ≡ cond (b && c) (s ∷ ts) ts
filter_step p true true s ss ts is h = ap (λ d. cond d (s ∷ filter p ss) (filter p ss)) is ∙ ap (λ us. s ∷ us) h
filter_step p true false s ss ts is h = ap (λ d. cond d (s ∷ filter p ss) (filter p ss)) is ∙ h
filter_step p false c s ss ts is h = h

filter_both : (p q : OpenStart → Bool) (ss : List OpenStart) → filter p (filter q ss) ≡ filter (λ s. q s && p s) ss
filter_both p q [] = refl
filter_both p q (s ∷ ss) =
    filter_step p (q s) (p s) s (filter q ss) (filter (λ t. q t && p t) ss) refl (filter_both p q ss)

filter_any : (ss : List OpenStart) → filter (λ s. true) ss ≡ ss
filter_any [] = refl
filter_any (s ∷ ss) = ap (λ ts. s ∷ ts) (filter_any ss)

length-map : (xs : List ShardState) → length (map own_start xs) ≡ length xs
length-map [] = refl
length-map (x ∷ xs) = ap suc (length-map xs)

pub open_many : (ss : List OpenStart) (xs : List ShardState) → AreStarts ss xs → length ss ≡ length (filter is_open xs)
open_many ss xs starts = ap length (sym (filter_any ss)) ∙ starts.many (λ s. true)
    ∙ ap length (filter_any (open_starts xs)) ∙ length-map (filter is_open xs)

-- ---- What lists contain

contains_choice : (b : Bool) (y : ShardState) (ys : List ShardState) (s : OpenStart) → Contains (map own_start ys) s
    → Contains (map own_start (cond b (y ∷ ys) ys)) s
contains_choice true y ys s h = (suc h.0, omega (arith, h.1), h.2)
contains_choice false y ys s h = h

contains_chosen : (b : Bool) (y x : ShardState) (ys : List ShardState) → b ≡ true → y ≡ x
    → Contains (map own_start (cond b (y ∷ ys) ys)) (own_start x)
contains_chosen true y x ys t is = (0, omega arith, ap own_start is)
contains_chosen false y x ys t is = absurd cc

contains_open : (xs : List ShardState) (i : ℕ) (x : ShardState) → slice_get xs i ≡ Some x → is_open x ≡ true
    → Contains (open_starts xs) (own_start x)
contains_open [] i x is open_now = absurd cc
contains_open (y ∷ ys) zero x is open_now =
    let e : y ≡ x = cc in
    contains_chosen (is_open y) y x (filter is_open ys) (ap is_open e ∙ open_now) e
contains_open (y ∷ ys) (suc i) x is open_now =
    contains_choice (is_open y) y (filter is_open ys) (own_start x) (contains_open ys i x is open_now)

left_choice : (b : Bool) (y s : OpenStart) (ys : List OpenStart) → Contains ys s → Contains (cond b (y ∷ ys) ys) s
left_choice true y s ys h = (suc h.0, omega (arith, h.1), h.2)
left_choice false y s ys h = h

left_chosen : (b : Bool) (y s : OpenStart) (ys : List OpenStart) → b ≡ true → y ≡ s → Contains (cond b (y ∷ ys) ys) s
left_chosen true y s ys t is = (0, omega arith, is)
left_chosen false y s ys t is = absurd cc

contains_left : (p : OpenStart → Bool) (ss : List OpenStart) (s : OpenStart) (k : ℕ) → k < length ss → get_or ss k s ≡ s
    → p s ≡ true → Contains (filter p ss) s
contains_left p [] s k lt is t = absurd (omega arith)
contains_left p (y ∷ ys) s zero lt is t = left_chosen (p y) y s (filter p ys) (ap p is ∙ t) is
contains_left p (y ∷ ys) s (suc k) lt is t =
    left_choice (p y) y s (filter p ys) (contains_left p ys s k (omega arith) is t)

-- ---- Indexes in two lists, one after the other

pub get_front : {A : Type 0} → (xs ys : List A) (i : ℕ) (x : A) → slice_get xs i ≡ Some x
    → slice_get (xs ++ ys) i ≡ Some x
get_front [] ys i x is = absurd cc
get_front (z ∷ zs) ys zero x is = is
get_front (z ∷ zs) ys (suc i) x is = get_front zs ys i x is

pub get_back : {A : Type 0} → (xs ys : List A) (i : ℕ) → slice_get (xs ++ ys) (length xs + i) ≡ slice_get ys i
get_back [] ys i = let e : 0 + i ≡ i = omega arith in ap (slice_get ys) e
get_back (z ∷ zs) ys i = let e : suc (length zs) + i ≡ suc (length zs + i) = omega arith in
    ap (slice_get (z ∷ zs ++ ys)) e ∙ get_back zs ys i

-- The shard `x` is in `ys`, which comes after `n` other shards, and `i` is its index among all of them.
pub record IsBehind (ys : List ShardState) (n i : ℕ) (x : ShardState) : Type 0 where
  pub index : ℕ
  pub at : slice_get ys index ≡ Some x
  pub is : i ≡ n + index

behind_more : (ys : List ShardState) (n i : ℕ) (x : ShardState) → IsBehind ys n i x → IsBehind ys (suc n) (suc i) x
behind_more ys n i x h = record { index = h.index; at = h.at; is = omega (arith, h.is) }

pub get_cases : (xs ys : List ShardState) (i : ℕ) (x : ShardState) → slice_get (xs ++ ys) i ≡ Some x
    → (slice_get xs i ≡ Some x) ⊎ IsBehind ys (length xs) i x
get_cases [] ys i x is = inr (record { index = i; at = is; is = omega arith })
get_cases (z ∷ zs) ys zero x is = inl is
get_cases (z ∷ zs) ys (suc i) x is = more (get_cases zs ys i x is)
  where
    more : (slice_get zs i ≡ Some x) ⊎ IsBehind ys (length zs) i x → (slice_get zs i ≡ Some x)
        ⊎ IsBehind ys (suc (length zs)) (suc i) x
    more (inl h) = inl h
    more (inr h) = inr (behind_more ys (length zs) i x h)

-- ---- The starts of a list of shards

start_choice : (b : Bool) (xs : List ShardState) (y : ShardState) (ys : List ShardState)
    → (b ≡ true → IsStart xs (own_start y)) → AllByRecursion (IsStart xs) (map own_start ys)
    → AllByRecursion (IsStart xs) (map own_start (cond b (y ∷ ys) ys))
start_choice true xs y ys h rest = (h refl, rest)
start_choice false xs y ys h rest = rest

each_from : (xs ys : List ShardState) (n : ℕ) → AreNumbered n ys
    → ((i : ℕ) (y : ShardState) → slice_get ys i ≡ Some y → slice_get xs (n + i) ≡ Some y)
    → AllByRecursion (IsStart xs) (open_starts ys)
each_from xs [] n numbers is_at = tt
each_from xs (y ∷ ys) n numbers is_at =
    let e : n + 0 ≡ y.no = omega (arith, numbers.0) in
    start_choice (is_open y) xs y (filter is_open ys)
    (λ open_now. record {
      state = y;
      made = ap (slice_get xs) (sym e) ∙ is_at 0 y refl;
      is_open_now = open_now;
      begins = refl;
    })
    (each_from xs ys (n + 1) numbers.1 (λ i z is. let f : n + 1 + i ≡ n + suc i = omega arith in
    ap (slice_get xs) f ∙ is_at (suc i) z is))

pub made_starts : (xs : List ShardState) → AreNumbered 0 xs → AreOf (open_starts xs) xs
made_starts xs numbers = record {
  each = All-from_recursion (IsStart xs) (open_starts xs)
      (each_from xs xs 0 numbers (λ i y is. let e : 0 + i ≡ i = omega arith in ap (slice_get xs) e ∙ is));
  whole = λ i x is open_now.
      let e : x.no ≡ i = omega (arith, number_at xs 0 i x numbers is) in
      subst (λ (k : ℕ). Contains (open_starts xs) (open_start_of x k)) e (contains_open xs i x is open_now);
}

pub in_order : (xs : List ShardState) (ss ts : List OpenStart) → AreOf ss xs
    → ((p : OpenStart → Bool) → length (filter p ss) ≡ length (filter p (open_starts xs))) → IsPermutation ss ts
    → IsNonDecreasingBy (λ (s : OpenStart). s.key) ts → AreStarts ts xs
unfolding tally
in_order xs ss ts is_of many same order = record {
  many = λ p. tally_same p ss ts same ∙ many p;
  of = record {
    each = All-permutation (IsStart xs) ss ts same is_of.each;
    whole = λ i x is open_now. Contains-permutation ss ts (open_start_of x i) same (is_of.whole i x is open_now);
  };
  order = order;
}

-- ---- Two shards are closed, and others are added at the end

-- The shards with only `sh` and `other` closed, so that only the starts of these two go.
pub record Closes (xs closed : List ShardState) (sh other : ℕ) : Type 0 where
  pub kept : (i : ℕ) (x : ShardState) → i ≢ sh → i ≢ other → slice_get xs i ≡ Some x → slice_get closed i ≡ Some x
  pub back : (i : ℕ) (x : ShardState) → slice_get closed i ≡ Some x → is_open x ≡ true → (slice_get xs i ≡ Some x)
      × (i ≢ sh) × (i ≢ other)
  pub long : length closed ≡ length xs
  pub left : AreNumbered 0 xs → filter (stays sh other) (open_starts xs) ≡ open_starts closed

passes : (sh other : ℕ) (s : OpenStart) → stays sh other s ≡ true → (s.shard ≢ sh) × (s.shard ≢ other)
passes sh other s h = ((λ e. grind (arith, nat_tests)), (λ e. grind (arith, nat_tests)))

passes_by : (sh other : ℕ) (s : OpenStart) → s.shard ≢ sh → s.shard ≢ other → stays sh other s ≡ true
passes_by sh other s h g = grind (arith, nat_tests)

module _ (xs closed born : List ShardState) (sh other : ℕ) (closes : Closes xs closed sh other)
    (numbers : AreNumbered (length xs) born) where
  still : (ss : List OpenStart) → All (IsStart xs) ss → All (IsStart (closed ++ born)) (filter (stays sh other) ss)
  still ss each i d lt =
      let s = get_or (filter (stays sh other) ss) i d in
      let was : IsStart xs s = All-filter (stays sh other) (IsStart xs) ss each i d lt in
      let apart = passes sh other s (filter_passes (stays sh other) ss i d lt) in
      record {
        state = was.state;
        made = get_front closed born s.shard was.state (closes.kept s.shard was.state apart.0 apart.1 was.made);
        is_open_now = was.is_open_now;
        begins = was.begins;
      }

  born_at : (i : ℕ) (y : ShardState) → slice_get born i ≡ Some y → slice_get (closed ++ born) (length xs + i) ≡ Some y
  born_at i y is =
      let e : length xs + i ≡ length closed + i = omega (arith, closes.long) in
      ap (slice_get (closed ++ born)) e ∙ get_back closed born i ∙ is

  whole_by : (ss : List OpenStart) → AreOf ss xs → (i : ℕ) (x : ShardState) → is_open x ≡ true
      → (slice_get closed i ≡ Some x) ⊎ IsBehind born (length closed) i x
      → Contains (filter (stays sh other) ss ++ open_starts born) (open_start_of x i)
  whole_by ss is_of i x open_now (inl h) =
      let was = closes.back i x h open_now in
      let member = is_of.whole i x was.0 open_now in
      Contains-append_left (filter (stays sh other) ss) (open_starts born) (open_start_of x i)
      (contains_left (stays sh other) ss (open_start_of x i) member.0 member.1 member.2
      (passes_by sh other (open_start_of x i) was.1 was.2))
  whole_by ss is_of i x open_now (inr h) =
      let e : x.no ≡ i = omega (arith, number_at born (length xs) h.index x numbers h.at, h.is, closes.long) in
      Contains-append_right (filter (stays sh other) ss) (open_starts born) (open_start_of x i)
      (subst (λ (k : ℕ). Contains (open_starts born) (open_start_of x k)) e
      (contains_open born h.index x h.at open_now))

  pub changed : (ss : List OpenStart) → AreOf ss xs
      → AreOf (filter (stays sh other) ss ++ open_starts born) (closed ++ born)
  changed ss is_of = record {
    each = All-append (IsStart (closed ++ born)) (filter (stays sh other) ss) (open_starts born) (still ss is_of.each)
        (All-from_recursion (IsStart (closed ++ born)) (open_starts born)
        (each_from (closed ++ born) born (length xs) numbers born_at));
    whole = λ i x is open_now. whole_by ss is_of i x open_now (get_cases closed born i x is);
  }

open-append : (xs ys : List ShardState) → open_starts (xs ++ ys) ≡ open_starts xs ++ open_starts ys
open-append [] ys = refl
open-append (x ∷ xs) ys = cases (is_open x) (open-append xs ys)
  where
    cases : (b : Bool) → open_starts (xs ++ ys) ≡ open_starts xs ++ open_starts ys
        → map own_start (cond b (x ∷ filter is_open (xs ++ ys)) (filter is_open (xs ++ ys)))
        ≡ map own_start (cond b (x ∷ filter is_open xs) (filter is_open xs)) ++ open_starts ys
    cases true h = ap (λ ss. own_start x ∷ ss) h
    cases false h = h

many_changed : (xs closed born : List ShardState) (sh other : ℕ) → Closes xs closed sh other → AreNumbered 0 xs
    → (ss : List OpenStart) → AreStarts ss xs
    → (p : OpenStart → Bool) → length (filter p (filter (stays sh other) ss ++ open_starts born))
    ≡ length (filter p (open_starts (closed ++ born)))
unfolding tally
many_changed xs closed born sh other closes numbers ss starts p =
    let front : tally p (filter (stays sh other) ss) ≡ tally p (open_starts closed) =
    ap length (filter_both p (stays sh other) ss)
    ∙ starts.many (λ s. stays sh other s && p s)
    ∙ sym (ap length (filter_both p (stays sh other) (open_starts xs)))
    ∙ ap (tally p) (closes.left numbers) in
    tally-append p (filter (stays sh other) ss) (open_starts born)
    ∙ ap (λ n. n + tally p (open_starts born)) front
    ∙ sym (tally-append p (open_starts closed) (open_starts born))
    ∙ ap (tally p) (sym (open-append closed born))

-- Starts that stay and starts of new shards, in the order of keys, are right after a split or merge.
pub reshaped : (xs closed born : List ShardState) (sh other : ℕ) → Closes xs closed sh other
    → AreNumbered (length xs) born → AreNumbered 0 xs
    → (ss more ts : List OpenStart) → AreStarts ss xs → more ≡ filter (stays sh other) ss ++ open_starts born
    → IsPermutation more ts → IsNonDecreasingBy (λ (s : OpenStart). s.key) ts
    → AreStarts ts (closed ++ born)
reshaped xs closed born sh other closes numbers own ss more ts starts is same order =
    in_order (closed ++ born) more ts
    (subst (λ (us : List OpenStart). AreOf us (closed ++ born)) (sym is)
    (changed xs closed born sh other closes numbers ss starts.of))
    (λ p. ap (λ us. length (filter p us)) is ∙ many_changed xs closed born sh other closes own ss starts p) same order

-- ---- Shards that are closed

closed_other : (xs : List ShardState) (sh i : ℕ) (closing : Closing) → i ≢ sh
    → slice_get (with_closed sh closing xs) i ≡ slice_get xs i
closed_other [] sh i closing apart = refl
closed_other (x ∷ xs) zero zero closing apart = absurd (apart refl)
closed_other (x ∷ xs) zero (suc i) closing apart = refl
closed_other (x ∷ xs) (suc sh) zero closing apart = refl
closed_other (x ∷ xs) (suc sh) (suc i) closing apart = closed_other xs sh i closing (λ e. apart (ap suc e))

closed_same : (xs : List ShardState) (sh : ℕ) (closing : Closing) (x : ShardState)
    → slice_get (with_closed sh closing xs) sh ≡ Some x → is_open x ≡ false
closed_same [] sh closing x is = absurd cc
closed_same (y ∷ ys) zero closing x is =
    let y' : ShardState = record y { closing = Some closing } in
    let e : y' ≡ x = cc in
    sym (ap is_open e)
closed_same (y ∷ ys) (suc sh) closing x is = closed_same ys sh closing x is

open_apart : (xs : List ShardState) (sh i : ℕ) (closing : Closing) (x : ShardState)
    → slice_get (with_closed sh closing xs) i ≡ Some x → is_open x ≡ true → i ≢ sh
open_apart xs sh i closing x is open_now e =
    let is' : slice_get (with_closed sh closing xs) sh ≡ Some x = ap (slice_get (with_closed sh closing xs)) (sym e)
    ∙ is in
    absurd (apart (is_open x) open_now (closed_same xs sh closing x is'))

-- ---- The starts that are left after shards are closed

-- Whether the start belongs to another shard than `k`.
abbrev is_other : ℕ → OpenStart → Bool
is_other k s = not (s.shard == k)

kept_step : (k : ℕ) (b : Bool) (x : ShardState) (xs ys : List ShardState) → is_other k (own_start x) ≡ true
    → filter (is_other k) (map own_start xs) ≡ map own_start ys
    → filter (is_other k) (map own_start (cond b (x ∷ xs) xs)) ≡ map own_start (cond b (x ∷ ys) ys)
kept_step k true x xs ys stays_so h =
    ap (λ d. cond d (own_start x ∷ filter (is_other k) (map own_start xs)) (filter (is_other k) (map own_start xs)))
    stays_so ∙ ap (λ ss. own_start x ∷ ss) h
kept_step k false x xs ys stays_so h = h

gone_step : (k : ℕ) (b : Bool) (x : ShardState) (xs ys : List ShardState) → is_other k (own_start x) ≡ false
    → filter (is_other k) (map own_start xs) ≡ map own_start ys
    → filter (is_other k) (map own_start (cond b (x ∷ xs) xs)) ≡ map own_start ys
gone_step k true x xs ys goes h =
    ap (λ d. cond d (own_start x ∷ filter (is_other k) (map own_start xs)) (filter (is_other k) (map own_start xs)))
    goes ∙ h
gone_step k false x xs ys goes h = h

another : (m n k : ℕ) → m ≡ n → k ≢ n → not (m == k) ≡ true
another m n k is apart = grind (arith, nat_tests)

the_same : (m n k : ℕ) → m ≡ n → k ≡ n → not (m == k) ≡ false
the_same m n k is same = grind (arith, nat_tests)

left_behind : (xs : List ShardState) (n k : ℕ) → AreNumbered n xs → k < n
    → filter (is_other k) (open_starts xs) ≡ open_starts xs
left_behind [] n k numbers below = refl
left_behind (x ∷ xs) n k numbers below =
    kept_step k (is_open x) x (filter is_open xs) (filter is_open xs)
    (another x.no n k numbers.0 (λ e. absurd (omega arith)))
    (left_behind xs (n + 1) k numbers.1 (omega arith))

left_one : (xs : List ShardState) (n sh k : ℕ) (closing : Closing) → AreNumbered n xs → k ≡ n + sh
    → filter (is_other k) (open_starts xs) ≡ open_starts (with_closed sh closing xs)
left_one [] n sh k closing numbers is = refl
left_one (x ∷ xs) n zero k closing numbers is =
    gone_step k (is_open x) x (filter is_open xs) (filter is_open xs) (the_same x.no n k numbers.0 (omega (arith, is)))
    (left_behind xs (n + 1) k numbers.1 (omega (arith, is)))
left_one (x ∷ xs) n (suc sh) k closing numbers is =
    kept_step k (is_open x) x (filter is_open xs) (filter is_open (with_closed sh closing xs))
    (another x.no n k numbers.0 (λ e. absurd (omega (arith, is))))
    (left_one xs (n + 1) sh k closing numbers.1 (omega (arith, is)))

left_two : (xs : List ShardState) (sh other : ℕ) (closing : Closing) → AreNumbered 0 xs
    → filter (stays sh other) (open_starts xs) ≡ open_starts (with_closed other closing (with_closed sh closing xs))
left_two xs sh other closing numbers =
    sym (filter_both (is_other other) (is_other sh) (open_starts xs))
    ∙ ap (filter (is_other other)) (left_one xs 0 sh sh closing numbers (omega arith))
    ∙ left_one (with_closed sh closing xs) 0 other other closing (numbered-closed 0 sh closing xs numbers) (omega arith)

closed_twice : (xs : List ShardState) (sh : ℕ) (closing : Closing) → with_closed sh closing (with_closed sh closing xs)
    ≡ with_closed sh closing xs
closed_twice [] sh closing = refl
closed_twice (x ∷ xs) zero closing = refl
closed_twice (x ∷ xs) (suc sh) closing = ap (λ ys. x ∷ ys) (closed_twice xs sh closing)

pub closes_one : (xs : List ShardState) (sh : ℕ) (closing : Closing) → Closes xs (with_closed sh closing xs) sh sh
closes_one xs sh closing = record {
  kept = λ i x apart again is. closed_other xs sh i closing apart ∙ is;
  back = λ i x is open_now.
      let apart = open_apart xs sh i closing x is open_now in
      (sym (closed_other xs sh i closing apart) ∙ is, apart, apart);
  long = length-closed sh closing xs;
  left = λ numbers. left_two xs sh sh closing numbers ∙ ap open_starts (closed_twice xs sh closing);
}

pub closes_two : (xs : List ShardState) (sh other : ℕ) (closing : Closing)
    → Closes xs (with_closed other closing (with_closed sh closing xs)) sh other
closes_two xs sh other closing =
    let once = with_closed sh closing xs in
    record {
      kept = λ i x apart apart' is. closed_other once other i closing apart' ∙ closed_other xs sh i closing apart ∙ is;
      back = λ i x is open_now.
          let apart' = open_apart once other i closing x is open_now in
          let is' : slice_get once i ≡ Some x = sym (closed_other once other i closing apart') ∙ is in
          let apart = open_apart xs sh i closing x is' open_now in
          (sym (closed_other xs sh i closing apart) ∙ is', apart, apart');
      long = length-closed other closing once ∙ length-closed sh closing xs;
      left = left_two xs sh other closing;
    }
