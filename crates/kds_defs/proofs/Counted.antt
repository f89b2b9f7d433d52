-- The lengths of the lists of ranges, shards and records that the definitions compute.
use Rattle.std.proofs.Common.{◌≡◌, ℕ, zero, suc, ◌+◌, List, [], ◌∷◌, length, map, refl, ap, ◌∙◌}
use Rattle.std.proofs.lemmas.List.{length-append}
use Rattle.kds_base.specs.Span.{Span, uniform_from}
use Rattle.kds_defs.specs.declared.reply.Stored.{Stored}
use Rattle.kds_defs.specs.Records.{Logged, numbers_of, stored}
use Rattle.kds_defs.specs.Shards.{Closing, ShardState, first_shards, merged_shards, split_shards, with_closed}
use Rattle.kds_defs.proofs.Numbers.{length-closed}

pub length_first : (n start : ℕ) (ranges : List Span) → length (first_shards n start ranges) ≡ length ranges
length_first n start [] = refl
length_first n start (r ∷ rs) = ap suc (length_first (n + 1) start rs)

pub length_uniform : (width start n : ℕ) → length (uniform_from width start n) ≡ n
length_uniform width start zero = refl
length_uniform width start (suc zero) = refl
length_uniform width start (suc (suc n)) = ap suc (length_uniform width (start + width) (suc n))

pub length_split : (sh hash start : ℕ) (closing : Closing) (xs : List ShardState)
    → length (split_shards sh hash closing start xs) ≡ length xs + 2
length_split sh hash start closing xs = length-append _ _ ∙ ap (λ n. n + 2) (length-closed sh closing xs)

pub length_merged : (sh other start : ℕ) (closing : Closing) (xs : List ShardState)
    → length (merged_shards sh other closing start xs) ≡ length xs + 1
length_merged sh other start closing xs =
    length-append _ _ ∙ ap (λ n. n + 1) (length-closed other closing (with_closed sh closing xs)
    ∙ length-closed sh closing xs)

pub numbers_stored : (xs : List Logged) → map (λ (r : Stored). r.seq) (map stored xs) ≡ numbers_of xs
numbers_stored [] = refl
numbers_stored (x ∷ xs) = ap (λ ns. x.seq ∷ ns) (numbers_stored xs)

pub length_stored : (rs : List Logged) → length (map stored rs) ≡ length rs
length_stored [] = refl
length_stored (r ∷ rs) = ap suc (length_stored rs)
