-- How a scaling's step, which names only a key, applies to shards, and which starts the open ones have then.
use Rattle.std.proofs.Common.{◌≡◌, ℕ, zero, suc, ◌+◌, ◌-◌, ◌*◌, ◌/◌, ◌%◌, ◌^◌, ◌<◌, ◌≤◌, Bool, true, false, List, []}
use Rattle.std.proofs.Common.{◌∷◌, ◌++◌, length, Option, Some, None, refl, sym, ap, subst, ◌∙◌, arith}
use Rattle.std.specs.Prelude.{◌==◌, ◌&&◌, ◌||◌, cond, not, nat_le, nat_lt, slice_get, if◌then◌else◌}
use Rattle.std.specs.List.{AllByRecursion, filter}
use Rattle.std.proofs.lemmas.Bool.Decides.{nat_tests}
use Rattle.std.proofs.lemmas.Option.{same_Some}
use Rattle.kds_base.specs.Span.{Span, Covers, is_inside, lower_part, upper_part, is_followed_by, are_adjacent, joined}
use Rattle.kds_base.specs.Span.{uniform}
use Rattle.kds_base.specs.Span.{uniform_from}
use Rattle.kds_base.proofs.Facts.{zero_plus}
use Rattle.kds_defs.specs.Scaling.{RiseFrom, is_start, starts_of, uniform_starts, with_start, without}
use Rattle.kds_defs.specs.ScaleCommands.{starts_among}
use Rattle.kds_defs.specs.Shards.{ShardState, Closing, first_shards, is_open, new_shard, with_closed, range_of}
use Rattle.kds_defs.specs.Shards.{split_shards, merged_shards, home_among}
use Rattle.kds_defs.specs.Tiled.{AreNumbered, IsOrdered, IsTiled, count_if, one, open_times}
use Rattle.kds_defs.proofs.Homes.{home_found}
use Rattle.kds_defs.proofs.Numbers.{numbered-closed, numbered-append, length-closed}
use Rattle.kds_defs.proofs.Tiles.{other-closed, tiled_split, tiled_merge, width_fits, counted, ordered-at}
use Rattle.kds_defs.proofs.Members.{in_filter, in_with_start}
use Rattle.kds_defs.proofs.Rising.{rise_filter, rise_with, same_starts}

-- ---- How many open shards start at a key

-- 1 if the range starts at the key, and 0 otherwise.
abbrev at_start : Span → ℕ → ℕ
at_start r k = if r.start == k then 1 else 0

-- The number of open shards whose range starts at the key.
abbrev start_times : List ShardState → ℕ → ℕ
start_times [] k = 0
start_times (x ∷ xs) k = count_if (is_open x) (at_start x.range k) + start_times xs k

times-append : (xs ys : List ShardState) (k : ℕ) → start_times (xs ++ ys) k ≡ start_times xs k + start_times ys k
times-append [] ys k = omega arith
times-append (x ∷ xs) ys k = omega (arith, times-append xs ys k)

times-closed : (xs : List ShardState) (sh : ℕ) (closing : Closing) (x : ShardState) (k : ℕ) → slice_get xs sh ≡ Some x
    → is_open x ≡ true → start_times (with_closed sh closing xs) k + at_start x.range k ≡ start_times xs k
times-closed [] sh closing x k is open_now = absurd cc
times-closed (y ∷ ys) zero closing x k is open_now =
    let e : y ≡ x = cc in
    omega (
      arith,
      counted (is_open y) (at_start y.range k) (ap is_open e ∙ open_now),
      ap (λ (z : ShardState). at_start z.range k) e,
    )
times-closed (y ∷ ys) (suc sh) closing x k is open_now = omega (arith, times-closed ys sh closing x k is open_now)

times-at : (xs : List ShardState) (sh : ℕ) (x : ShardState) (k : ℕ) → slice_get xs sh ≡ Some x → is_open x ≡ true
    → x.range.start ≡ k → 1 ≤ start_times xs k
times-at [] sh x k is open_now is_at = absurd cc
times-at (y ∷ ys) zero x k is open_now is_at =
    let e : y ≡ x = cc in
    let s : y.range.start ≡ k = ap (λ (z : ShardState). z.range.start) e ∙ is_at in
    let one_here : at_start y.range k ≡ 1 = itself y.range k s in
    omega (arith, counted (is_open y) (at_start y.range k) (ap is_open e ∙ open_now), one_here)
  where
    itself : (r : Span) (k : ℕ) → r.start ≡ k → at_start r k ≡ 1
    itself r k h = grind (arith, nat_tests)
times-at (y ∷ ys) (suc sh) x k is open_now is_at = omega (arith, times-at ys sh x k is open_now is_at)

start_within : (r : Span) (k : ℕ) → r.start ≤ r.end → at_start r k ≤ one r k
start_within r k h = grind (arith, nat_tests)

within : (b : Bool) (n m : ℕ) → n ≤ m → count_if b n ≤ count_if b m
within true n m h = h
within false n m h = omega arith

times_within : (xs : List ShardState) (k : ℕ) → AllByRecursion IsOrdered xs → start_times xs k ≤ open_times xs k
times_within [] k ordered = omega arith
times_within (x ∷ xs) k ordered =
    omega (arith, within (is_open x) _ _ (start_within x.range k ordered.0), times_within xs k ordered.1)

-- ---- Ranges that end below 2^128

-- The range of the shard ends at a hash key.
abbrev pub IsBounded : ShardState → Type 0
IsBounded x = x.range.end < 2 ^ 128

none_beyond : (r : Span) (k : ℕ) → r.end < 2 ^ 128 → 2 ^ 128 ≤ k → one r k ≡ 0
none_beyond r k h g = grind (arith, nat_tests)

none : (b : Bool) (n : ℕ) → n ≡ 0 → count_if b n ≡ 0
none true n h = h
none false n h = refl

beyond : (xs : List ShardState) (k : ℕ) → AllByRecursion IsBounded xs → 2 ^ 128 ≤ k → open_times xs k ≡ 0
beyond [] k bounded far = refl
beyond (x ∷ xs) k bounded far =
    omega (arith, none (is_open x) _ (none_beyond x.range k bounded.0 far), beyond xs k bounded.1 far)

once_by : (b : Bool) (xs : List ShardState) (k : ℕ) → nat_lt k (2 ^ 128) ≡ b → IsTiled xs → AllByRecursion IsBounded xs
    → start_times xs k ≤ 1
once_by true xs k is tiled bounded =
    let below : k < 2 ^ 128 = grind (arith, nat_tests) in
    omega (arith, times_within xs k tiled.ordered, tiled.times k below)
once_by false xs k is tiled bounded =
    let far : 2 ^ 128 ≤ k = grind (arith, nat_tests) in
    omega (arith, times_within xs k tiled.ordered, beyond xs k bounded far)

pub once : (xs : List ShardState) (k : ℕ) → IsTiled xs → AllByRecursion IsBounded xs → start_times xs k ≤ 1
once xs k tiled bounded = once_by (nat_lt k (2 ^ 128)) xs k refl tiled bounded

-- ---- The starts of the open shards

-- The first keys of the open shards' ranges, in rising order.
abbrev pub open_starts : List ShardState → List ℕ
open_starts xs = starts_among (filter is_open xs)

member_by : (b : Bool) (x : ShardState) (xs : List ShardState) (k : ℕ)
    → is_start (open_starts xs) k ≡ nat_lt 0 (start_times xs k)
    → is_start (starts_among (cond b (x ∷ filter is_open xs) (filter is_open xs))) k
    ≡ nat_lt 0 (count_if b (at_start x.range k) + start_times xs k)
member_by true x xs k m =
    in_with_start x.range.start (open_starts xs) k ∙ ap (λ (r : Bool). (x.range.start == k) || r) m
    ∙ either x.range.start k (start_times xs k)
  where
    either : (a k n : ℕ) → ((a == k) || nat_lt 0 n) ≡ nat_lt 0 ((if a == k then 1 else 0) + n)
    either a k n = grind (arith, nat_tests)
member_by false x xs k m = m ∙ ap (nat_lt 0) (sym (zero_plus (start_times xs k)))

member : (xs : List ShardState) (k : ℕ) → is_start (open_starts xs) k ≡ nat_lt 0 (start_times xs k)
member [] k = refl
member (x ∷ xs) k = member_by (is_open x) x xs k (member xs k)

rising_by : (b : Bool) (x : ShardState) (xs : List ShardState) → is_open x ≡ b
    → count_if b (at_start x.range x.range.start) + start_times xs x.range.start ≤ 1 → RiseFrom 0 (open_starts xs)
    → RiseFrom 0 (starts_among (cond b (x ∷ filter is_open xs) (filter is_open xs)))
rising_by true x xs is few r =
    rise_with x.range.start 0 (open_starts xs) (omega arith) r (member xs x.range.start
    ∙ no_other x.range.start (start_times xs x.range.start) few)
  where
    no_other : (a n : ℕ) → (if a == a then 1 else 0) + n ≤ 1 → nat_lt 0 n ≡ false
    no_other a n h = grind (arith, nat_tests)
rising_by false x xs is few r = r

rising : (xs : List ShardState) → ((k : ℕ) → start_times xs k ≤ 1) → RiseFrom 0 (open_starts xs)
rising [] few = tt
rising (x ∷ xs) few = rising_by (is_open x) x xs refl (few x.range.start) (rising xs (λ k. omega (arith, few k)))

-- ---- One open shard contains a key

-- Shard `sh` is `x`, it is open, and its range contains the key `k`.
abbrev HasKey : List ShardState → ℕ → ℕ → ShardState → Type 0
HasKey xs k sh x = (slice_get xs sh ≡ Some x) × (is_open x ≡ true) × Covers x.range k

covered : (r : Span) (k : ℕ) → Covers r k → one r k ≡ 1
covered r k h = let low : r.start ≤ k = h.0 in let high : k ≤ r.end = h.1 in grind (arith, nat_tests)

has_some : (xs : List ShardState) (k sh : ℕ) (x : ShardState) → HasKey xs k sh x → 1 ≤ open_times xs k
has_some [] k sh x h = absurd cc
has_some (y ∷ ys) k zero x h =
    let e : y ≡ x = cc in
    omega (
      arith,
      counted (is_open y) (one y.range k) (ap is_open e ∙ h.1),
      ap (λ (z : ShardState). one z.range k) e,
      covered x.range k h.2,
    )
has_some (y ∷ ys) k (suc sh) x h = omega (arith, has_some ys k sh x (h.0, h.1, h.2))

here_alone : (y x : ShardState) (ys : List ShardState) (k sh : ℕ) → is_open y ≡ true → Covers y.range k
    → HasKey ys k sh x → count_if (is_open y) (one y.range k) + open_times ys k ≤ 1 → ⊥
here_alone y x ys k sh open_now has h few =
    omega (arith, counted (is_open y) (one y.range k) open_now, covered y.range k has, has_some ys k sh x h, few)

pub only_one : (xs : List ShardState) (k i j : ℕ) (x y : ShardState) → open_times xs k ≤ 1 → HasKey xs k i x
    → HasKey xs k j y → i ≡ j
only_one [] k i j x y few h g = absurd cc
only_one (z ∷ zs) k zero zero x y few h g = refl
only_one (z ∷ zs) k zero (suc j) x y few h g =
    let e : z ≡ x = cc in
    absurd (here_alone z y zs k j (ap is_open e ∙ h.1) (subst (λ (w : ShardState). Covers w.range k) (sym e) h.2) (
      g.0,
      g.1,
      g.2,
    ) few)
only_one (z ∷ zs) k (suc i) zero x y few h g =
    let e : z ≡ y = cc in
    absurd (here_alone z x zs k i (ap is_open e ∙ g.1) (subst (λ (w : ShardState). Covers w.range k) (sym e) g.2) (
      h.0,
      h.1,
      h.2,
    ) few)
only_one (z ∷ zs) k (suc i) (suc j) x y few h g =
    ap suc (only_one zs k i j x y (omega arith) (h.0, h.1, h.2) (g.0, g.1, g.2))

-- Shard `sh` is `x`, it is open, and its range starts at the key `b`.
pub record Starts (xs : List ShardState) (b sh : ℕ) (x : ShardState) : Type 0 where
  pub stands : slice_get xs sh ≡ Some x
  pub is_open_now : is_open x ≡ true
  pub at : x.range.start ≡ b

starts_by : (b : Bool) (x : ShardState) (xs : List ShardState) (k : ℕ) → is_open x ≡ b
    → nat_lt 0 (count_if b (at_start x.range k) + start_times xs k) ≡ true
    → (nat_lt 0 (start_times xs k) ≡ true → (sh : ℕ) × (y : ShardState) × Starts xs k sh y)
    → (same : Bool) → (x.range.start == k) ≡ same → (sh : ℕ) × (y : ShardState) × Starts (x ∷ xs) k sh y
starts_by true x xs k is some rest true same =
    (zero, x, record { stands = refl; is_open_now = is; at = equal x.range.start k same })
  where
    equal : (a b : ℕ) → (a == b) ≡ true → a ≡ b
    equal a b h = grind (arith, nat_tests)
starts_by true x xs k is some rest false same =
    let f = rest (later x.range.start k (start_times xs k) same some) in
    (suc f.0, f.1, record { stands = f.2.stands; is_open_now = f.2.is_open_now; at = f.2.at })
  where
    later : (a k n : ℕ) → (a == k) ≡ false → nat_lt 0 ((if a == k then 1 else 0) + n) ≡ true → nat_lt 0 n ≡ true
    later a k n h g = grind (arith, nat_tests)
starts_by false x xs k is some rest same e =
    let f = rest (ap (nat_lt 0) (sym (zero_plus (start_times xs k))) ∙ some) in
    (suc f.0, f.1, record { stands = f.2.stands; is_open_now = f.2.is_open_now; at = f.2.at })

starts_there : (xs : List ShardState) (k : ℕ) → nat_lt 0 (start_times xs k) ≡ true → (sh : ℕ) × (y : ShardState)
    × Starts xs k sh y
starts_there [] k some = absurd cc
starts_there (x ∷ xs) k some = starts_by (is_open x) x xs k refl some (starts_there xs k) (x.range.start == k) refl

-- ---- What a scaling needs of the shards of a stream

-- What a scaling needs of a stream's shards.
pub record IsScalable (xs : List ShardState) : Type 0 where
  pub tiled : IsTiled xs
  pub bounded : AllByRecursion IsBounded xs
  pub numbered : AreNumbered 0 xs

pub rise_open : (xs : List ShardState) → IsScalable xs → RiseFrom 0 (open_starts xs)
rise_open xs ok = rising xs (λ k. once xs k ok.tiled ok.bounded)

bounded-at : (xs : List ShardState) (sh : ℕ) (x : ShardState) → slice_get xs sh ≡ Some x → AllByRecursion IsBounded xs
    → x.range.end < 2 ^ 128
bounded-at [] sh x is h = absurd cc
bounded-at (y ∷ ys) zero x is h = let e : y ≡ x = cc in omega (arith, h.0, ap (λ (z : ShardState). z.range.end) e)
bounded-at (y ∷ ys) (suc sh) x is h = bounded-at ys sh x is h.1

-- The search for the home of the key `k` finds the open shard `x`, which contains it.
pub record IsHomeOf (xs : List ShardState) (k : ℕ) (x : ShardState) : Type 0 where
  pub stands : slice_get xs (home_among (filter is_open xs) k) ≡ Some x
  pub is_open_now : is_open x ≡ true
  pub contains : Covers x.range k

pub home_of : (xs : List ShardState) (k : ℕ) → IsScalable xs → k < 2 ^ 128 → (x : ShardState) × IsHomeOf xs k x
home_of xs k ok below =
    let f = home_found xs 0 k ok.numbered (omega (arith, ok.tiled.times k below)) in
    let e : home_among (filter is_open xs) k - 0 ≡ home_among (filter is_open xs) k = omega arith in (
      f.state,
      record {
        stands = ap (slice_get xs) (sym e) ∙ f.stands;
        is_open_now = f.is_open_now;
        contains = f.contains;
      },
    )

same_shard : (xs : List ShardState) (i j : ℕ) (x y : ShardState) → slice_get xs i ≡ Some x → slice_get xs j ≡ Some y
    → i ≡ j → x ≡ y
same_shard xs i j x y h g e = same_Some x y (sym h ∙ ap (slice_get xs) e ∙ g)

-- ---- A merge at a start

-- The shards of a merge at the key `b`: `low` ends right before `b`, and `high` starts at `b`.
pub record Joins (xs : List ShardState) (b : ℕ) : Type 0 where
  pub low : ShardState
  pub high : ShardState
  pub low_home : IsHomeOf xs (b - 1) low
  pub high_home : IsHomeOf xs b high
  pub touch : low.range.end + 1 ≡ high.range.start
  pub at : high.range.start ≡ b

touches_by : (c : Bool) (xs : List ShardState) (b : ℕ) (low high : ShardState) → IsScalable xs → 0 < b → b < 2 ^ 128
    → IsHomeOf xs (b - 1) low → IsHomeOf xs b high → high.range.start ≡ b → nat_le b low.range.end ≡ c
    → low.range.end + 1 ≡ high.range.start
touches_by true xs b low high ok some below lh hh is_at is =
    let is_from : low.range.start ≤ b - 1 = lh.contains.0 in
    let is_to : b ≤ low.range.end = grind (arith, nat_tests) in
    let start : low.range.start ≤ b = omega arith in
    let same = only_one xs b _ _ low high (omega (arith, ok.tiled.times b below)) (
      lh.stands,
      lh.is_open_now,
      (start, is_to),
    ) (hh.stands, hh.is_open_now, hh.contains) in
    let e : low ≡ high = same_shard xs _ _ low high lh.stands hh.stands same in
    absurd (omega (arith, is_from, ap (λ (z : ShardState). z.range.start) e, is_at, some))
touches_by false xs b low high ok some below lh hh is_at is =
    let is_from : b - 1 ≤ low.range.end = lh.contains.1 in
    let is_to : low.range.end < b = grind (arith, nat_tests) in
    omega arith

pub joins : (xs : List ShardState) (b : ℕ) → IsScalable xs → 0 < b → is_start (open_starts xs) b ≡ true → Joins xs b
joins xs b ok some m =
    let s = starts_there xs b (sym (member xs b) ∙ m) in
    let order : s.1.range.start ≤ s.1.range.end = ordered-at xs s.0 s.1 s.2.stands ok.tiled.ordered in
    let at_b : s.1.range.start ≡ b = s.2.at in
    let below : b < 2 ^ 128 = omega (arith, order, at_b, bounded-at xs s.0 s.1 s.2.stands ok.bounded) in
    let less : b - 1 < 2 ^ 128 = omega arith in
    let low = home_of xs (b - 1) ok less in
    let high = home_of xs b ok below in
    let low_end : s.1.range.start ≤ b = omega arith in
    let high_end : b ≤ s.1.range.end = omega arith in
    let same = only_one xs b _ s.0 high.0 s.1 (omega (arith, ok.tiled.times b below)) (
      high.1.stands,
      high.1.is_open_now,
      high.1.contains,
    ) (s.2.stands, s.2.is_open_now, (low_end, high_end)) in
    let e : high.0 ≡ s.1 = same_shard xs _ s.0 high.0 s.1 high.1.stands s.2.stands same in
    let is_at : high.0.range.start ≡ b = ap (λ (z : ShardState). z.range.start) e ∙ at_b in
    record {
      low = low.0;
      high = high.0;
      low_home = low.1;
      high_home = high.1;
      touch = touches_by (nat_le b low.0.range.end) xs b low.0 high.0 ok some below low.1 high.1 is_at refl;
      at = is_at;
    }

follow_so : (a b : Span) → a.end + 1 ≡ b.start → is_followed_by a b ≡ true
follow_so a b h = grind (arith, nat_tests)

adjacent_so : (a b : Span) → a.end + 1 ≡ b.start → are_adjacent a b ≡ true
adjacent_so a b h = ap (λ (r : Bool). r || is_followed_by b a) (follow_so a b h)

pub joins_touch : (xs : List ShardState) (b : ℕ) (j : Joins xs b) → are_adjacent j.low.range j.high.range ≡ true
joins_touch xs b j = adjacent_so j.low.range j.high.range j.touch

joined_start : (a b : Span) (k : ℕ) → a.end + 1 ≡ b.start → at_start (joined a b) k ≡ at_start a k
joined_start a b k h =
    ap (λ (r : Bool). at_start (if r then record { start = a.start; end = b.end } else record {
      start = b.start;
      end = a.end;
    }) k) (follow_so a b h)

joins_differ : (xs : List ShardState) (b : ℕ) → 0 < b → (j : Joins xs b)
    → home_among (filter is_open xs) (b - 1) ≡ home_among (filter is_open xs) b → ⊥
joins_differ xs b some j e =
    let same : j.low ≡ j.high = same_shard xs _ _ j.low j.high j.low_home.stands j.high_home.stands e in
    let is_from : j.low.range.start ≤ b - 1 = j.low_home.contains.0 in
    omega (arith, is_from, ap (λ (z : ShardState). z.range.start) same, j.at, some)

-- The shards after a merge at the key `b`; `start` is the child's starting sequence number.
abbrev pub after_join : List ShardState → ℕ → Closing → ℕ → List ShardState
after_join xs b closing start =
    merged_shards (home_among (filter is_open xs) (b - 1)) (home_among (filter is_open xs) b) closing start xs

times_joined : (xs : List ShardState) (b : ℕ) (closing : Closing) (start k : ℕ) → 0 < b → (j : Joins xs b)
    → start_times (after_join xs b closing start) k + at_start j.high.range k ≡ start_times xs k
times_joined xs b closing start k some j =
    let sh = home_among (filter is_open xs) (b - 1) in
    let other = home_among (filter is_open xs) b in
    let still = other-closed xs sh other closing (joins_differ xs b some j) ∙ j.high_home.stands in
    let child = joined (range_of (slice_get xs sh)) (range_of (slice_get xs other)) in
    let e : at_start child k ≡ at_start (joined j.low.range j.high.range) k =
    ap (λ o. at_start (joined (range_of o) (range_of (slice_get xs other))) k) j.low_home.stands
    ∙ ap (λ o. at_start (joined j.low.range (range_of o)) k) j.high_home.stands in
    omega (
      arith,
      e,
      joined_start j.low.range j.high.range k j.touch,
      times-closed xs sh closing j.low k j.low_home.stands j.low_home.is_open_now,
      times-closed (with_closed sh closing xs) other closing j.high k still j.high_home.is_open_now,
      times-append (with_closed other closing (with_closed sh closing xs))
          (new_shard (length xs) child (Some sh) (Some other) start ∷ []) k,
    )

left_by : (c : Bool) (h b k a t : ℕ) → (k == b) ≡ c → a + (if h == k then 1 else 0) ≡ t → h ≡ b → t ≤ 1
    → nat_lt 0 a ≡ (not (k == b) && nat_lt 0 t)
left_by true h b k a t is sum is_at few =
    let z : a ≡ 0 = grind (arith, nat_tests) in
    ap (nat_lt 0) z ∙ ap (λ (r : Bool). not r && nat_lt 0 t) (sym is)
left_by false h b k a t is sum is_at few =
    let z : a ≡ t = grind (arith, nat_tests) in
    ap (nat_lt 0) z ∙ ap (λ (r : Bool). not r && nat_lt 0 t) (sym is)

-- A merge at `b` removes only this start.
pub starts_joined : (xs : List ShardState) (b : ℕ) (closing : Closing) (start : ℕ) → IsScalable xs → 0 < b → Joins xs b
    → open_starts (after_join xs b closing start) ≡ without b (open_starts xs)
starts_joined xs b closing start ok some j =
    let few : (k : ℕ) → start_times xs k ≤ 1 = λ k. once xs k ok.tiled ok.bounded in
    let sum : (k : ℕ) → start_times (after_join xs b closing start) k + at_start j.high.range k ≡ start_times xs k =
    λ k. times_joined xs b closing start k some j in
    same_starts 0 _ _
    (rising (after_join xs b closing start) (λ k. omega (arith, few k, sum k)))
    (rise_filter (λ x. not (x == b)) 0 (open_starts xs) (rising xs few))
    (λ k. member (after_join xs b closing start) k
    ∙ left_by (k == b) j.high.range.start b k _ _ refl (sum k) j.at (few k)
    ∙ ap (λ (r : Bool). not (k == b) && r) (sym (member xs k))
    ∙ sym (in_filter (λ x. not (x == b)) (open_starts xs) k))

bounded-closed : (xs : List ShardState) (sh : ℕ) (closing : Closing) → AllByRecursion IsBounded xs
    → AllByRecursion IsBounded (with_closed sh closing xs)
bounded-closed [] sh closing h = tt
bounded-closed (y ∷ ys) zero closing h = (h.0, h.1)
bounded-closed (y ∷ ys) (suc sh) closing h = (h.0, bounded-closed ys sh closing h.1)

bounded-append : (xs ys : List ShardState) → AllByRecursion IsBounded xs → AllByRecursion IsBounded ys
    → AllByRecursion IsBounded (xs ++ ys)
bounded-append [] ys h g = g
bounded-append (x ∷ xs) ys h g = (h.0, bounded-append xs ys h.1 g)

chosen_bounded : (r : Bool) (x y : Span) → x.end < 2 ^ 128 → y.end < 2 ^ 128 → (if r then x else y).end < 2 ^ 128
chosen_bounded true x y h g = h
chosen_bounded false x y h g = g

joined_bounded : (a b : Span) → a.end < 2 ^ 128 → b.end < 2 ^ 128 → (joined a b).end < 2 ^ 128
joined_bounded a b h g =
    chosen_bounded (is_followed_by a b) (record { start = a.start; end = b.end })
    (record { start = b.start; end = a.end }) g h

pub range_bounded : (xs : List ShardState) (sh : ℕ) (o : Option ShardState) → slice_get xs sh ≡ o
    → AllByRecursion IsBounded xs → (range_of o).end < 2 ^ 128
range_bounded xs sh None is h = omega arith
range_bounded xs sh (Some x) is h = bounded-at xs sh x is h

pub bounded_merged : (xs : List ShardState) (sh other : ℕ) (closing : Closing) (start : ℕ) → AllByRecursion IsBounded xs
    → AllByRecursion IsBounded (merged_shards sh other closing start xs)
bounded_merged xs sh other closing start h =
    bounded-append _ _ (bounded-closed _ other closing (bounded-closed xs sh closing h))
    (joined_bounded _ _ (range_bounded xs sh _ refl h) (range_bounded xs other _ refl h), tt)

pub bounded_split : (xs : List ShardState) (sh hash : ℕ) (closing : Closing) (start : ℕ) → hash < 2 ^ 128
    → AllByRecursion IsBounded xs → AllByRecursion IsBounded (split_shards sh hash closing start xs)
bounded_split xs sh hash closing start below h =
    bounded-append _ _ (bounded-closed xs sh closing h)
    (omega arith, (range_bounded xs sh _ refl h, tt))

bounded_uniform : (w a n i start : ℕ) → 0 < w → a + n * w < 2 ^ 128
    → AllByRecursion IsBounded (first_shards i start (uniform_from w a (suc n)))
bounded_uniform w a zero i start wide fits = (omega arith, tt)
bounded_uniform w a (suc n) i start wide fits =
    (omega arith, bounded_uniform w (a + w) n (i + 1) start wide (omega arith))

pub bounded_new : (count start : ℕ) → 1 ≤ count → count ≤ 500
    → AllByRecursion IsBounded (first_shards 0 start (uniform count))
bounded_new zero start low high = absurd (omega arith)
bounded_new (suc n) start low high =
    let f = width_fits n (2 ^ 128 / suc n) (2 ^ 128 % suc n) (omega arith) (omega arith) high in
    bounded_uniform (2 ^ 128 / suc n) 0 n 0 start f.0 (omega (arith, f.1))

below_uniform : (w a n : ℕ) → a + n * w < 2 ^ 128
    → AllByRecursion (λ b. b < 2 ^ 128) (starts_of (uniform_from w a (suc n)))
below_uniform w a zero fits = (omega arith, tt)
below_uniform w a (suc n) fits = (omega arith, below_uniform w (a + w) n (omega arith))

pub below_wanted : (n : ℕ) → 1 ≤ n → n ≤ 500 → AllByRecursion (λ b. b < 2 ^ 128) (uniform_starts n)
below_wanted zero low high = absurd (omega arith)
below_wanted (suc n) low high =
    let f = width_fits n (2 ^ 128 / suc n) (2 ^ 128 % suc n) (omega arith) (omega arith) high in
    below_uniform (2 ^ 128 / suc n) 0 n (omega (arith, f.1))

pub length_uniform : (w a n : ℕ) → length (starts_of (uniform_from w a n)) ≡ n
length_uniform w a zero = refl
length_uniform w a (suc zero) = refl
length_uniform w a (suc (suc n)) = ap suc (length_uniform w (a + w) (suc n))

pub length_wanted : (n : ℕ) → length (uniform_starts n) ≡ n
length_wanted n = length_uniform (2 ^ 128 / n) 0 n

placed_length : (lt : Bool) (b x : ℕ) (xs : List ℕ) → length (with_start b xs) ≡ suc (length xs)
    → length (cond lt (b ∷ x ∷ xs) (x ∷ with_start b xs)) ≡ suc (suc (length xs))
placed_length true b x xs h = refl
placed_length false b x xs h = ap suc h

pub length_with : (b : ℕ) (xs : List ℕ) → length (with_start b xs) ≡ suc (length xs)
length_with b [] = refl
length_with b (x ∷ xs) = placed_length (nat_lt b x) b x xs (length_with b xs)

pub length_starts : (xs : List ShardState) → length (starts_among xs) ≡ length xs
length_starts [] = refl
length_starts (x ∷ xs) = length_with x.range.start (starts_among xs) ∙ ap suc (length_starts xs)

numbered_merged : (xs : List ShardState) (sh other : ℕ) (closing : Closing) (start : ℕ) → AreNumbered 0 xs
    → AreNumbered 0 (merged_shards sh other closing start xs)
numbered_merged xs sh other closing start h =
    let len = length-closed other closing (with_closed sh closing xs) ∙ length-closed sh closing xs in
    numbered-append 0 _ _ (numbered-closed 0 other closing _ (numbered-closed 0 sh closing xs h)) (
      omega arith,
      tt,
    )

numbered_split : (xs : List ShardState) (sh hash : ℕ) (closing : Closing) (start : ℕ) → AreNumbered 0 xs
    → AreNumbered 0 (split_shards sh hash closing start xs)
numbered_split xs sh hash closing start h =
    let len = length-closed sh closing xs in
    numbered-append 0 _ _ (numbered-closed 0 sh closing xs h) (omega arith, (omega arith, tt))

pub scalable_joined : (xs : List ShardState) (b : ℕ) (closing : Closing) (start : ℕ) → IsScalable xs → (j : Joins xs b)
    → IsScalable (after_join xs b closing start)
scalable_joined xs b closing start ok j =
    let sh = home_among (filter is_open xs) (b - 1) in
    let other = home_among (filter is_open xs) b in
    let t : (r r' : Span) → r ≡ j.low.range → r' ≡ j.high.range
    → IsTiled (with_closed other closing (with_closed sh closing xs)
    ++ (new_shard (length xs) (joined r r') (Some sh) (Some other) start ∷ [])) =
    λ r r' e e'. subst (λ q.
    IsTiled (with_closed other closing (with_closed sh closing xs)
    ++ (new_shard (length xs) (joined q r') (Some sh) (Some other) start ∷ []))) (sym e)
    (subst (λ q. IsTiled (with_closed other closing (with_closed sh closing xs)
    ++ (new_shard (length xs) (joined j.low.range q) (Some sh) (Some other) start ∷ []))) (sym e')
    (tiled_merge xs sh other (length xs) start closing (Some sh) (Some other) j.low j.high j.low_home.stands
    j.high_home.stands j.low_home.is_open_now j.high_home.is_open_now (joins_touch xs b j) ok.tiled)) in
    record {
      tiled = t _ _ (ap range_of j.low_home.stands) (ap range_of j.high_home.stands);
      bounded = bounded_merged xs sh other closing start ok.bounded;
      numbered = numbered_merged xs sh other closing start ok.numbered;
    }

-- ---- A split at a key at which no open shard starts

-- The shard of a split at the key `b`: its home, with `b` inside the range, so that neither part is empty.
pub record Cuts (xs : List ShardState) (b : ℕ) : Type 0 where
  pub shard : ShardState
  pub is_home : IsHomeOf xs b shard
  pub inside : is_inside shard.range b ≡ true

cuts_inside : (r : Span) (b : ℕ) → Covers r b → (r.start ≡ b → ⊥) → is_inside r b ≡ true
cuts_inside r b h differ = let low : r.start ≤ b = h.0 in let high : b ≤ r.end = h.1 in let less : r.start < b =
    omega (arith, low) in grind (arith, nat_tests)

positive_so : (n : ℕ) → 1 ≤ n → nat_lt 0 n ≡ true
positive_so n h = grind (arith, nat_tests)

pub cuts : (xs : List ShardState) (b : ℕ) → IsScalable xs → b < 2 ^ 128 → is_start (open_starts xs) b ≡ false
    → Cuts xs b
cuts xs b ok below m =
    let f = home_of xs b ok below in
    let differ : f.0.range.start ≡ b → ⊥ = λ e.
    let some : true ≡ false = sym (positive_so (start_times xs b) (times-at xs _ f.0 b f.1.stands f.1.is_open_now e))
    ∙ sym (member xs b) ∙ m in
    cc in
    record { shard = f.0; is_home = f.1; inside = cuts_inside f.0.range b f.1.contains differ }

-- The shards after a split at the key `b`; `start` is the children's starting sequence number.
abbrev pub after_cut : List ShardState → ℕ → Closing → ℕ → List ShardState
after_cut xs b closing start = split_shards (home_among (filter is_open xs) b) b closing start xs

times_cut : (xs : List ShardState) (b : ℕ) (closing : Closing) (start k : ℕ) → (c : Cuts xs b)
    → start_times (after_cut xs b closing start) k ≡ (if b == k then 1 else 0) + start_times xs k
times_cut xs b closing start k c =
    let sh = home_among (filter is_open xs) b in
    let r = range_of (slice_get xs sh) in
    let e : at_start (lower_part r b) k ≡ at_start c.shard.range k =
    ap (λ o. at_start (lower_part (range_of o) b) k) c.is_home.stands in
    omega (
      arith,
      e,
      times-closed xs sh closing c.shard k c.is_home.stands c.is_home.is_open_now,
      times-append (with_closed sh closing xs) (new_shard (length xs) (lower_part r b) (Some sh) None start
          ∷ new_shard (length xs + 1) (upper_part r b) (Some sh) None start ∷ []) k,
    )

more_by : (c : Bool) (b k a t : ℕ) → (b == k) ≡ c → a ≡ (if b == k then 1 else 0) + t
    → nat_lt 0 a ≡ ((b == k) || nat_lt 0 t)
more_by true b k a t is sum =
    let z : nat_lt 0 a ≡ true = grind (arith, nat_tests) in
    z ∙ ap (λ (r : Bool). r || nat_lt 0 t) (sym is)
more_by false b k a t is sum =
    let z : a ≡ t = grind (arith, nat_tests) in
    ap (nat_lt 0) z ∙ ap (λ (r : Bool). r || nat_lt 0 t) (sym is)

few_by : (c : Bool) (b k a t : ℕ) → (b == k) ≡ c → a ≡ (if b == k then 1 else 0) + t → t ≤ 1 → (b ≡ k → t ≡ 0) → a ≤ 1
few_by true b k a t is sum few gone = let z : t ≡ 0 = gone (grind (arith, nat_tests)) in grind (arith, nat_tests)
few_by false b k a t is sum few gone = grind (arith, nat_tests)

no_times : (n : ℕ) → nat_lt 0 n ≡ false → n ≡ 0
no_times n h = grind (arith, nat_tests)

-- A split at `b` adds only this start.
pub starts_cut : (xs : List ShardState) (b : ℕ) (closing : Closing) (start : ℕ) → IsScalable xs
    → is_start (open_starts xs) b ≡ false → Cuts xs b
    → open_starts (after_cut xs b closing start) ≡ with_start b (open_starts xs)
starts_cut xs b closing start ok m c =
    let few : (k : ℕ) → start_times xs k ≤ 1 = λ k. once xs k ok.tiled ok.bounded in
    let none_at : start_times xs b ≡ 0 = no_times _ (sym (member xs b) ∙ m) in
    let sum : (k : ℕ) → start_times (after_cut xs b closing start) k ≡ (if b == k then 1 else 0) + start_times xs k =
    λ k. times_cut xs b closing start k c in
    same_starts 0 _ _
    (rising (after_cut xs b closing start)
    (λ k. few_by (b == k) b k _ (start_times xs k) refl (sum k) (few k) (λ e. ap (start_times xs) (sym e)
    ∙ none_at)))
    (rise_with b 0 (open_starts xs) (omega arith) (rising xs few) m)
    (λ k. member (after_cut xs b closing start) k
    ∙ more_by (b == k) b k _ _ refl (sum k)
    ∙ ap (λ (r : Bool). (b == k) || r) (sym (member xs k))
    ∙ sym (in_with_start b (open_starts xs) k))

pub scalable_cut : (xs : List ShardState) (b : ℕ) (closing : Closing) (start : ℕ) → IsScalable xs → b < 2 ^ 128
    → (c : Cuts xs b) → IsScalable (after_cut xs b closing start)
scalable_cut xs b closing start ok below c =
    let sh = home_among (filter is_open xs) b in
    let t : (r : Span) → r ≡ c.shard.range
    → IsTiled (with_closed sh closing xs
    ++ (new_shard (length xs) (lower_part r b) (Some sh) None start
    ∷ new_shard (length xs + 1) (upper_part r b) (Some sh) None start ∷ [])) =
    λ r e. subst (λ q. IsTiled (with_closed sh closing xs
    ++ (new_shard (length xs) (lower_part q b) (Some sh) None start
    ∷ new_shard (length xs + 1) (upper_part q b) (Some sh) None start ∷ []))) (sym e)
    (tiled_split xs sh (length xs) (length xs + 1) b start closing (Some sh) None c.shard c.is_home.stands
    c.is_home.is_open_now c.inside ok.tiled) in
    record {
      tiled = t _ (ap range_of c.is_home.stands);
      bounded = bounded_split xs sh b closing start below ok.bounded;
      numbered = numbered_split xs sh b closing start ok.numbered;
    }
