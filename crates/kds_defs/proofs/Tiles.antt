-- A hash key is in one open shard of a new stream, and this stays so after splits and merges.
use Rattle.std.proofs.Common.{◌≡◌, ℕ, zero, suc, ◌+◌, ◌-◌, ◌*◌, ◌/◌, ◌%◌, ◌^◌, ◌<◌, ◌≤◌, Bool, true, false, List, []}
use Rattle.std.proofs.Common.{◌∷◌, ◌++◌, map, Option, Some, refl, sym, ap, ◌∙◌, arith}
use Rattle.std.specs.Prelude.{nat_le, slice_get, cond, if◌then◌else◌}
use Rattle.std.specs.List.{AllByRecursion, filter}
use Rattle.std.proofs.lemmas.Bool.Decides.{nat_tests}
use Rattle.std.proofs.lemmas.Option.{same_Some}
use Rattle.kds_base.specs.Span.{Span, is_inside, lower_part, upper_part, are_adjacent, joined, last_key, uniform_from}
use Rattle.kds_base.specs.Span.{uniform}
use Rattle.kds_defs.specs.Safe.{times_covered}
use Rattle.kds_defs.specs.Shards.{ShardState, Closing, is_open, new_shard, first_shards, with_closed}
use Rattle.kds_defs.specs.Tiled.{one, count_if, open_times, IsOrdered, IsTiled}

pub counted : (b : Bool) (n : ℕ) → b ≡ true → count_if b n ≡ n
counted true n h = refl
counted false n h = absurd cc

same_times_by : (b : Bool) (x : ShardState) (xs : List ShardState) (k : ℕ)
    → times_covered (map (λ y. y.range) (filter is_open xs)) k ≡ open_times xs k
    → times_covered (map (λ y. y.range) (cond b (x ∷ filter is_open xs) (filter is_open xs))) k
    ≡ count_if b (one x.range k) + open_times xs k
same_times_by true x xs k h = omega (arith)
same_times_by false x xs k h = omega (arith)

-- Both ways of counting the open shards with a key agree.
pub same_times : (xs : List ShardState) (k : ℕ) → times_covered (map (λ x. x.range) (filter is_open xs)) k
    ≡ open_times xs k
same_times [] k = refl
same_times (x ∷ xs) k = same_times_by (is_open x) x xs k (same_times xs k)

open_times-append : (xs ys : List ShardState) (k : ℕ) → open_times (xs ++ ys) k ≡ open_times xs k + open_times ys k
open_times-append [] ys k = omega arith
open_times-append (x ∷ xs) ys k = omega (arith, open_times-append xs ys k)

open_times-closed : (xs : List ShardState) (sh : ℕ) (closing : Closing) (x : ShardState) (k : ℕ)
    → slice_get xs sh ≡ Some x → is_open x ≡ true → open_times (with_closed sh closing xs) k + one x.range k
    ≡ open_times xs k
open_times-closed [] sh closing x k is open_now = absurd cc
open_times-closed (y ∷ ys) zero closing x k is open_now =
    let e : y ≡ x = cc in
    omega (
      arith,
      counted (is_open y) (one y.range k) (ap is_open e ∙ open_now),
      ap (λ (z : ShardState). one z.range k) e,
    )
open_times-closed (y ∷ ys) (suc sh) closing x k is open_now =
    omega (arith, open_times-closed ys sh closing x k is open_now)

ordered-closed : (xs : List ShardState) (sh : ℕ) (closing : Closing) → AllByRecursion IsOrdered xs
    → AllByRecursion IsOrdered (with_closed sh closing xs)
ordered-closed [] sh closing h = tt
ordered-closed (y ∷ ys) zero closing h = (h.0, h.1)
ordered-closed (y ∷ ys) (suc sh) closing h = (h.0, ordered-closed ys sh closing h.1)

ordered-append : (xs ys : List ShardState) → AllByRecursion IsOrdered xs → AllByRecursion IsOrdered ys
    → AllByRecursion IsOrdered (xs ++ ys)
ordered-append [] ys h g = g
ordered-append (x ∷ xs) ys h g = (h.0, ordered-append xs ys h.1 g)

pub ordered-at : (xs : List ShardState) (sh : ℕ) (x : ShardState) → slice_get xs sh ≡ Some x
    → AllByRecursion IsOrdered xs → x.range.start ≤ x.range.end
ordered-at [] sh x is h = absurd cc
ordered-at (y ∷ ys) zero x is h = let e : y ≡ x = cc in
    omega (arith, h.0, ap (λ (z : ShardState). z.range.start) e, ap (λ (z : ShardState). z.range.end) e)
ordered-at (y ∷ ys) (suc sh) x is h = ordered-at ys sh x is h.1

pub other-closed : (xs : List ShardState) (sh other : ℕ) (closing : Closing) → (sh ≡ other → ⊥)
    → slice_get (with_closed sh closing xs) other ≡ slice_get xs other
other-closed [] sh other closing differ = refl
other-closed (y ∷ ys) zero zero closing differ = absurd (differ refl)
other-closed (y ∷ ys) zero (suc other) closing differ = refl
other-closed (y ∷ ys) (suc sh) zero closing differ = refl
other-closed (y ∷ ys) (suc sh) (suc other) closing differ = other-closed ys sh other closing (λ e. differ (ap suc e))

one_split : (r : Span) (hash k : ℕ) → is_inside r hash ≡ true → one (lower_part r hash) k + one (upper_part r hash) k
    ≡ one r k
one_split r hash k h = grind (arith)

lower_ordered : (r : Span) (hash : ℕ) → is_inside r hash ≡ true → r.start ≤ hash - 1
lower_ordered r hash h = grind (arith)

upper_ordered : (r : Span) (hash : ℕ) → is_inside r hash ≡ true → hash ≤ r.end
upper_ordered r hash h = grind (arith)

one_join : (a b : Span) (k : ℕ) → a.start ≤ a.end → b.start ≤ b.end → are_adjacent a b ≡ true
    → one (joined a b) k ≡ one a k + one b k
one_join a b k oa ob h = grind (arith, nat_tests)

joined_ordered : (a b : Span) → a.start ≤ a.end → b.start ≤ b.end → are_adjacent a b ≡ true
    → (joined a b).start ≤ (joined a b).end
joined_ordered a b oa ob h = grind (arith)

no_self : (a b : Span) → a.start ≤ a.end → are_adjacent a b ≡ true → a ≡ b → ⊥
no_self a b oa h e = let s : a.start ≡ b.start = ap (λ (r : Span). r.start) e in let t : a.end ≡ b.end =
    ap (λ (r : Span). r.end) e in grind (arith)

same_at : (xs : List ShardState) (sh other : ℕ) (x y : ShardState) → slice_get xs sh ≡ Some x
    → slice_get xs other ≡ Some y → sh ≡ other → x.range ≡ y.range
same_at xs sh other x y is is' e = let s : Some x ≡ Some y = sym is ∙ ap (slice_get xs) e ∙ is' in
    ap (λ (z : ShardState). z.range) (same_Some x y s)

pub tiled_split : (xs : List ShardState) (sh n m hash start : ℕ) (closing : Closing) (p q : Option ℕ) (x : ShardState)
    → slice_get xs sh ≡ Some x → is_open x ≡ true → is_inside x.range hash ≡ true → IsTiled xs
    → IsTiled (with_closed sh closing xs
    ++ (new_shard n (lower_part x.range hash) p q start ∷ new_shard m (upper_part x.range hash) p q start ∷ []))
tiled_split xs sh n m hash start closing p q x is open_now inside tiled = record {
  times = λ k below. omega (
    arith,
    tiled.times k below,
    one_split x.range hash k inside,
    open_times-closed xs sh closing x k is open_now,
    open_times-append (with_closed sh closing xs) (new_shard n (lower_part x.range hash) p q start
        ∷ new_shard m (upper_part x.range hash) p q start ∷ []) k,
  );
  ordered = ordered-append _ _ (ordered-closed xs sh closing tiled.ordered) (
    lower_ordered x.range hash inside,
    (upper_ordered x.range hash inside, tt),
  );
}

pub tiled_merge : (xs : List ShardState) (sh other n start : ℕ) (closing : Closing) (p q : Option ℕ) (x y : ShardState)
    → slice_get xs sh ≡ Some x → slice_get xs other ≡ Some y → is_open x ≡ true → is_open y ≡ true
    → are_adjacent x.range y.range ≡ true → IsTiled xs
    → IsTiled (with_closed other closing (with_closed sh closing xs)
    ++ (new_shard n (joined x.range y.range) p q start ∷ []))
tiled_merge xs sh other n start closing p q x y is is' open_x open_y touch tiled =
    let ox = ordered-at xs sh x is tiled.ordered in
    let oy = ordered-at xs other y is' tiled.ordered in
    let differ : sh ≡ other → ⊥ = λ e. no_self x.range y.range ox touch (same_at xs sh other x y is is' e) in
    let still = other-closed xs sh other closing differ ∙ is' in
    record {
      times = λ k below. omega (
        arith,
        tiled.times k below,
        one_join x.range y.range k ox oy touch,
        open_times-closed xs sh closing x k is open_x,
        open_times-closed (with_closed sh closing xs) other closing y k still open_y,
        open_times-append (with_closed other closing (with_closed sh closing xs))
            (new_shard n (joined x.range y.range) p q start ∷ []) k,
      );
      ordered = ordered-append _ _ (ordered-closed _ other closing (ordered-closed xs sh closing tiled.ordered))
          (joined_ordered x.range y.range ox oy touch, tt);
    }

-- ---- A new stream

-- 1 if the key `k` is at or above `a`, and 0 otherwise.
abbrev from_on : ℕ → ℕ → ℕ
from_on a k = if nat_le a k then 1 else 0

one_last : (a k : ℕ) → k ≤ last_key → one (record { start = a; end = last_key }) k ≡ from_on a k
one_last a k below = grind (arith)

one_next : (a w k : ℕ) → 0 < w → one (record { start = a; end = a + w - 1 }) k + from_on (a + w) k ≡ from_on a k
one_next a w k wide = grind (arith)

times_uniform : (w a n i start k : ℕ) → 0 < w → k ≤ last_key
    → open_times (first_shards i start (uniform_from w a (suc n))) k ≡ from_on a k
times_uniform w a zero i start k wide below = omega (arith, one_last a k below)
times_uniform w a (suc n) i start k wide below =
    omega (arith, one_next a w k wide, times_uniform w (a + w) n (i + 1) start k wide below)

ordered_uniform : (w a n i start : ℕ) → 0 < w → a + n * w ≤ last_key
    → AllByRecursion IsOrdered (first_shards i start (uniform_from w a (suc n)))
ordered_uniform w a zero i start wide fits = (omega (arith), tt)
ordered_uniform w a (suc n) i start wide fits =
    (omega (arith), ordered_uniform w (a + w) n (i + 1) start wide (omega (arith)))

-- For up to 500 ranges, the width isn't 0, and the last range starts within the keys.
pub width_fits : (n w r : ℕ) → suc n * w + r ≡ 2 ^ 128 → r < suc n → suc n ≤ 500 → (0 < w) × (0 + n * w ≤ last_key)
width_fits n zero r e lt le = absurd (omega arith)
width_fits n (suc w) r e lt le = (omega arith, omega arith)

from_start : (k : ℕ) → from_on 0 k ≡ 1
from_start k = grind (arith)

pub tiled_new : (count start : ℕ) → 1 ≤ count → count ≤ 500 → IsTiled (first_shards 0 start (uniform count))
tiled_new zero start low high = absurd (omega arith)
tiled_new (suc n) start low high =
    let f = width_fits n (2 ^ 128 / suc n) (2 ^ 128 % suc n) (omega arith) (omega arith) high in
    record {
      times = λ k below. times_uniform (2 ^ 128 / suc n) 0 n 0 start k f.0 (omega arith) ∙ from_start k;
      ordered = ordered_uniform (2 ^ 128 / suc n) 0 n 0 start f.0 f.1;
    }
