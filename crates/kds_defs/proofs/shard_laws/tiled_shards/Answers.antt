use Rattle.std.proofs.Common.{ℕ, ◌+◌, ◌++◌, List, [], ◌∷◌, length, Option, Some, None, sym, subst}
use Rattle.std.specs.Prelude.{slice_get}
use Rattle.kds_base.specs.Span.{joined, lower_part, upper_part}
use Rattle.kds_defs.specs.Shards.{Closing, ShardState, merged_shards, new_shard, range_of, split_shards, with_closed}
use Rattle.kds_defs.specs.Tiled.{AreMergeable, IsSplittable, IsTiled}
use Rattle.kds_defs.proofs.Tiles.{same_times, tiled_merge, tiled_new, tiled_split}
use Rattle.kds_defs.proofs.shard_laws.tiled_shards.Goals as goal

split : (xs : List ShardState) (sh hash start : ℕ) (closing : Closing) → IsSplittable xs sh hash → IsTiled xs
    → IsTiled (split_shards sh hash closing start xs)
split xs sh hash start closing h tiled =
    subst (λ (o : Option ShardState).
    IsTiled (with_closed sh closing xs
    ++ (new_shard (length xs) (lower_part (range_of o) hash) (Some sh) None start
    ∷ new_shard (length xs + 1) (upper_part (range_of o) hash) (Some sh) None start ∷ [])))
    (sym h.stands)
    (tiled_split xs sh (length xs) (length xs + 1) hash start closing (Some sh) None h.state h.stands h.is_open_now
    h.inside tiled)

merged : (xs : List ShardState) (sh other start : ℕ) (closing : Closing) → AreMergeable xs sh other → IsTiled xs
    → IsTiled (merged_shards sh other closing start xs)
merged xs sh other start closing h tiled =
    subst (λ (o : Option ShardState).
    IsTiled (with_closed other closing (with_closed sh closing xs)
    ++ (new_shard (length xs) (joined (range_of o) (range_of (slice_get xs other))) (Some sh) (Some other) start
    ∷ [])))
    (sym h.stands)
    (subst (λ (o : Option ShardState).
    IsTiled (with_closed other closing (with_closed sh closing xs)
    ++ (new_shard (length xs) (joined h.state.range (range_of o)) (Some sh) (Some other) start ∷ [])))
    (sym h.stands_beside)
    (tiled_merge xs sh other (length xs) start closing (Some sh) (Some other) h.state h.adjacent h.stands
    h.stands_beside h.is_open_now h.is_open_beside h.touch tiled))

pub returns : goal.returns
returns c = record { first = tiled_new; split = split; merged = merged; times = λ xs k. same_times xs k }
