-- A split or a merge that isn't refused leaves at most `OPEN_SHARDS` open shards.
use Rattle.std.proofs.Common.{◌≡◌, ℕ, zero, suc, ◌+◌, ◌<◌, ◌≤◌, Bool, true, false, List, [], ◌∷◌, ◌++◌, length}
use Rattle.std.proofs.Common.{Some, None, refl, sym, ap, ◌∙◌, arith, length-append}
use Rattle.std.specs.Prelude.{cond, slice_get, if◌then◌else◌}
use Rattle.std.specs.List.{filter}
use Rattle.std.proofs.lemmas.List.Elements.{filter-append}
use Rattle.kds_base.specs.Span.{joined, lower_part, upper_part}
use Rattle.kds_base.proofs.Facts.{both_left}
use Rattle.kds_defs.specs.declared.limits.TheConstants.{OPEN_SHARDS}
use Rattle.kds_defs.specs.Shards.{Closing, ShardState, is_open, merged_shards, new_shard, range_of, split_shards}
use Rattle.kds_defs.specs.Shards.{with_closed}
use Rattle.kds_defs.specs.StreamCommands.{is_open_at}
use Rattle.kds_tree.specs.Tree.{merge_refusal, split_refusal}
use Rattle.kds_tree.proofs.Reshards.{passed}

-- The number of open shards.
abbrev pub open_among : List ShardState → ℕ
open_among xs = length (filter is_open xs)

one_more : (b : Bool) (x : ShardState) (xs : List ShardState) → b ≡ true → length (cond b (x ∷ xs) xs) ≡ suc (length xs)
one_more true x xs h = refl
one_more false x xs h = absurd cc

at_least : (b : Bool) (x : ShardState) (xs ys : List ShardState) → length xs ≤ length ys
    → length (cond b (x ∷ xs) xs) ≤ length (cond b (x ∷ ys) ys)
at_least true x xs ys h = omega arith
at_least false x xs ys h = h

no_less : (b : Bool) (x : ShardState) (xs : List ShardState) → length xs ≤ length (cond b (x ∷ xs) xs)
no_less true x xs = omega arith
no_less false x xs = omega arith

open_closed : (sh : ℕ) (closing : Closing) (xs : List ShardState)
    → open_among (with_closed sh closing xs) ≤ open_among xs
open_closed sh closing [] = omega arith
open_closed zero closing (x ∷ xs) = no_less (is_open x) x (filter is_open xs)
open_closed (suc sh) closing (x ∷ xs) =
    at_least (is_open x) x (filter is_open (with_closed sh closing xs)) (filter is_open xs) (open_closed sh closing xs)

both_more : (b : Bool) (x : ShardState) (xs ys : List ShardState) → suc (length xs) ≡ length ys
    → suc (length (cond b (x ∷ xs) xs)) ≡ length (cond b (x ∷ ys) ys)
both_more true x xs ys h = ap suc h
both_more false x xs ys h = h

open_fewer : (sh : ℕ) (closing : Closing) (xs : List ShardState) → is_open_at (slice_get xs sh) ≡ true
    → suc (open_among (with_closed sh closing xs)) ≡ open_among xs
open_fewer sh closing [] h = absurd cc
open_fewer zero closing (x ∷ xs) h = sym (one_more (is_open x) x (filter is_open xs) h)
open_fewer (suc sh) closing (x ∷ xs) h =
    both_more (is_open x) x (filter is_open (with_closed sh closing xs)) (filter is_open xs)
    (open_fewer sh closing xs h)

open-append : (xs ys : List ShardState) → open_among (xs ++ ys) ≡ open_among xs + open_among ys
open-append xs ys = ap length (filter-append is_open xs ys) ∙ length-append (filter is_open xs) (filter is_open ys)

-- ---- What is known of a split or a merge that isn't refused

splits_open : (xs : List ShardState) (sh hash : ℕ) → split_refusal xs sh hash ≡ None
    → is_open_at (slice_get xs sh) ≡ true
splits_open xs sh hash passes = (passed _ _ _ (passed _ _ _ passes).1).0

merges_open : (xs : List ShardState) (sh other : ℕ) → merge_refusal xs sh other ≡ None
    → is_open_at (slice_get xs sh) ≡ true
merges_open xs sh other passes = both_left _ _ (passed _ _ _ (passed _ _ _ passes).1).0

-- ---- The limit

pub few_split : (xs : List ShardState) (sh hash start : ℕ) (closing : Closing) → open_among xs < OPEN_SHARDS
    → split_refusal xs sh hash ≡ None → open_among (split_shards sh hash closing start xs) ≤ OPEN_SHARDS
few_split xs sh hash start closing few passes =
    let children = new_shard (length xs) (lower_part (range_of (slice_get xs sh)) hash) (Some sh) None start
    ∷ new_shard (length xs + 1) (upper_part (range_of (slice_get xs sh)) hash) (Some sh) None start ∷ [] in
    omega (
      arith,
      open-append (with_closed sh closing xs) children,
      open_fewer sh closing xs (splits_open xs sh hash passes),
    )

pub few_merged : (xs : List ShardState) (sh other start : ℕ) (closing : Closing) → open_among xs ≤ OPEN_SHARDS
    → merge_refusal xs sh other ≡ None → open_among (merged_shards sh other closing start xs) ≤ OPEN_SHARDS
few_merged xs sh other start closing few passes =
    let child = new_shard (length xs) (joined (range_of (slice_get xs sh)) (range_of (slice_get xs other))) (Some sh)
    (Some other) start ∷ [] in
    omega (
      arith,
      open-append (with_closed other closing (with_closed sh closing xs)) child,
      open_closed other closing (with_closed sh closing xs),
      open_fewer sh closing xs (merges_open xs sh other passes),
    )
