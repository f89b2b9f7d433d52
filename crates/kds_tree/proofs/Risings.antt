-- The first keys of the open shards' ranges, in rising order, are the starts of a partition.
use Rattle.std.proofs.Common.{◌≡◌, ℕ, zero, suc, ◌+◌, ◌^◌, ◌<◌, ◌≤◌, Bool, true, false, List, [], ◌∷◌, refl, sym, ap}
use Rattle.std.proofs.Common.{subst, ◌∙◌, arith}
use Rattle.std.specs.Prelude.{cond, ◌==◌, ◌&&◌, ◌||◌}
use Rattle.std.specs.List.{AllByRecursion, filter}
use Rattle.std.proofs.lemmas.Bool.Decides.{nat_tests}
use Rattle.std.proofs.lemmas.Bool.{false_from_ne_true}
use Rattle.kds_base.specs.Span.{Span}
use Rattle.kds_base.proofs.Facts.{equal_so}
use Rattle.kds_defs.specs.Scaling.{AreStarts, RiseFrom, is_start}
use Rattle.kds_defs.specs.ScaleCommands.{starts_among}
use Rattle.kds_defs.specs.Shards.{ShardState, is_open}
use Rattle.kds_defs.specs.Tiled.{one, count_if, open_times, IsOrdered}
use Rattle.kds_defs.proofs.Members.{in_with_start}
use Rattle.kds_defs.proofs.Rising.{rise_with, none_below}
use Rattle.kds_tree.specs.Tree.{IsTree, IsWithinKeys}

-- ---- Where open shards start

-- Whether the range of an open shard starts at the key.
abbrev pub begins_at : List ShardState → ℕ → Bool
begins_at xs k = is_start (starts_among (filter is_open xs)) k

begins_with : (b : Bool) (x : ShardState) (xs : List ShardState) (k : ℕ)
    → is_start (starts_among (cond b (x ∷ filter is_open xs) (filter is_open xs))) k
    ≡ ((b && (x.range.start == k)) || begins_at xs k)
begins_with true x xs k = in_with_start x.range.start (starts_among (filter is_open xs)) k
begins_with false x xs k = refl

pub begins_more : (x : ShardState) (xs : List ShardState) (k : ℕ)
    → begins_at (x ∷ xs) k ≡ ((is_open x && (x.range.start == k)) || begins_at xs k)
begins_more x xs k = begins_with (is_open x) x xs k

-- ---- The first keys rise strictly, because no two open shards contain the same key

pub one_here : (r : Span) → r.start ≤ r.end → one r r.start ≡ 1
one_here r h = grind (arith, nat_tests)

counted_by : (b c : Bool) (x : ShardState) (k n : ℕ) → is_open x ≡ b → (x.range.start == k) ≡ c
    → x.range.start ≤ x.range.end → (b && c) ≡ true → 1 ≤ count_if b (one x.range k) + n
counted_by true true x k n isb isc o h = let e : x.range.start ≡ k = equal_so x.range.start k isc in
    let w : one x.range k ≡ 1 = ap (one x.range) (sym e) ∙ one_here x.range o in omega arith
counted_by true false x k n isb isc o h = absurd cc
counted_by false c x k n isb isc o h = absurd cc

either : (a b : Bool) (P : Type 0) → (a || b) ≡ true → (a ≡ true → P) → (b ≡ true → P) → P
either true b P h f g = f refl
either false b P h f g = g h

pub begins_counted : (xs : List ShardState) (k : ℕ) → AllByRecursion IsOrdered xs → begins_at xs k ≡ true
    → 1 ≤ open_times xs k
begins_counted [] k o h = absurd cc
begins_counted (x ∷ xs) k o h =
    either (is_open x && (x.range.start == k)) (begins_at xs k) (1 ≤ open_times (x ∷ xs) k) (sym (begins_more x xs k)
    ∙ h)
    (λ here. counted_by (is_open x) (x.range.start == k) x k (open_times xs k) refl refl o.0 here)
    (λ there. let r : 1 ≤ open_times xs k = begins_counted xs k o.1 there in omega arith)

rise_open : (b : Bool) (x : ShardState) (xs : List ShardState) → (b ≡ true → begins_at xs x.range.start ≡ false)
    → RiseFrom 0 (starts_among (filter is_open xs))
    → RiseFrom 0 (starts_among (cond b (x ∷ filter is_open xs) (filter is_open xs)))
rise_open true x xs f r = rise_with x.range.start 0 (starts_among (filter is_open xs)) (omega arith) r (f refl)
rise_open false x xs f r = r

twice : (b : Bool) (x : ShardState) (n : ℕ) → b ≡ true → x.range.start ≤ x.range.end
    → count_if b (one x.range x.range.start) + n ≤ 1 → 1 ≤ n → ⊥
twice true x n h o few some = omega (arith, one_here x.range o, few, some)
twice false x n h o few some = absurd cc

pub open_rise : (xs : List ShardState) → ((k : ℕ) → k < 2 ^ 128 → open_times xs k ≤ 1) → AllByRecursion IsOrdered xs
    → AllByRecursion IsWithinKeys xs → RiseFrom 0 (starts_among (filter is_open xs))
open_rise [] once o w = tt
open_rise (x ∷ xs) once o w =
    let low : x.range.start < 2 ^ 128 = omega (arith, o.0, w.0) in
    rise_open (is_open x) x xs
    (λ open_now. false_from_ne_true (begins_at xs x.range.start)
    (λ h. twice (is_open x) x (open_times xs x.range.start) open_now o.0 (once x.range.start low)
    (begins_counted xs x.range.start o.1 h)))
    (open_rise xs (λ k below. let n : open_times (x ∷ xs) k ≤ 1 = once k below in omega arith) o.1 w.1)

pub tree_rises : (xs : List ShardState) → IsTree xs → RiseFrom 0 (starts_among (filter is_open xs))
tree_rises xs tree = open_rise xs (λ k below. omega (arith, tree.tiled.times k below)) tree.tiled.ordered tree.within

-- ---- The first of the first keys is 0

zero_by : (b : Bool) (x : ShardState) (xs : List ShardState) (n : ℕ) → is_open x ≡ b
    → 1 ≤ count_if b (one x.range 0) + n → (1 ≤ n → begins_at xs 0 ≡ true)
    → ((b && (x.range.start == 0)) || begins_at xs 0) ≡ true
zero_by false x xs n isb h rest = rest (omega arith)
zero_by true x xs n isb h rest = cases (x.range.start == 0) refl
  where
    later : (r : Span) → (r.start == 0) ≡ false → one r 0 ≡ 0
    later r e = grind (arith, nat_tests)

    cases : (c : Bool) → (x.range.start == 0) ≡ c → (c || begins_at xs 0) ≡ true
    cases true e = refl
    cases false e = rest (omega (arith, h, later x.range e))

begins_zero : (xs : List ShardState) → 1 ≤ open_times xs 0 → begins_at xs 0 ≡ true
begins_zero [] h = absurd (omega arith)
begins_zero (x ∷ xs) h = begins_more x xs 0 ∙ zero_by (is_open x) x xs (open_times xs 0) refl h (begins_zero xs)

from_zero : (ss : List ℕ) → RiseFrom 0 ss → is_start ss 0 ≡ true → AreStarts ss
from_zero [] r h = absurd cc
from_zero (b ∷ starts) r h = cases b r refl
  where
    cases : (n : ℕ) → RiseFrom 0 (b ∷ starts) → b ≡ n → AreStarts (b ∷ starts)
    cases zero r e = (e, subst (λ (m : ℕ). RiseFrom (m + 1) starts) e r.1)
    cases (suc n) r e =
        let g : true ≡ false = sym h ∙ none_below 1 (b ∷ starts) 0 (omega arith, r.1) (omega arith) in
        absurd cc

pub tree_starts : (xs : List ShardState) → IsTree xs → AreStarts (starts_among (filter is_open xs))
tree_starts xs tree =
    from_zero (starts_among (filter is_open xs)) (tree_rises xs tree)
    (begins_zero xs (omega (arith, tree.tiled.times 0 (omega arith))))
