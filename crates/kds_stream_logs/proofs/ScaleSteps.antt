-- A step of a scaling isn't refused, and makes the shards of the merge or split in the definitions.
use Rattle.std.proofs.Common.{◌≡◌, ℕ, ◌+◌, ◌-◌, ◌<◌, Bool, true, false, List, Some, None, refl, ap, ◌∙◌}
use Rattle.std.specs.Prelude.{not, is_some, ◌&&◌, if◌then◌else◌, slice_get}
use Rattle.std.proofs.lemmas.Bool.{and_from}
use Rattle.kds_base.specs.Span.{are_adjacent, is_inside}
use Rattle.kds_defs.specs.declared.reply.Refusal.{Refusal}
use Rattle.kds_defs.specs.declared.reply.Refusal.TheVariants as refusal
use Rattle.kds_defs.specs.Scaling.{is_start, with_start, without}
use Rattle.kds_defs.specs.Shards.{ShardState, merged_shards, range_of, split_shards}
use Rattle.kds_defs.specs.StreamCommands.{is_open_at}
use Rattle.kds_scale.proofs.Partitions.{Cuts, IsScalable, Joins, joins_touch, starts_cut, starts_joined}
use Rattle.kds_stream_logs.specs.Steps.{home_in, starts_in}
use Rattle.kds_tree.specs.Tree.{after_merge, after_split, merge_refusal, split_refusal, value_by}

no_refusal : (a b d : Bool) (r s t : Refusal) → a ≡ true → b ≡ true → d ≡ true
    → (if not a then Some r else if not b then Some s else if not d then Some t else None) ≡ None
no_refusal true true true r s t ha hb hd = refl
no_refusal true true false r s t ha hb hd = absurd cc
no_refusal true false d r s t ha hb hd = absurd cc
no_refusal false b d r s t ha hb hd = absurd cc

-- Here the open shards `sh` and `other` meet at the hash key `b`, where `other` starts.
module _ (xs : List ShardState) (b n c sh other : ℕ) (j : Joins xs b) (is_at : sh ≡ home_in xs (b - 1))
    (beside : other ≡ home_in xs b) where
  low_at : slice_get xs sh ≡ Some j.low
  low_at = ap (slice_get xs) is_at ∙ j.low_home.stands

  high_at : slice_get xs other ≡ Some j.high
  high_at = ap (slice_get xs) beside ∙ j.high_home.stands

  merges : merge_refusal xs sh other ≡ None
  merges =
      no_refusal (is_some (slice_get xs sh) && is_some (slice_get xs other)) (is_open_at (slice_get xs sh)
      && is_open_at (slice_get xs other))
      (are_adjacent (range_of (slice_get xs sh)) (range_of (slice_get xs other)))
      refusal.NoShard refusal.ShardClosed refusal.NotAdjacent
      (and_from _ _ (ap is_some low_at) (ap is_some high_at))
      (and_from _ _ (ap is_open_at low_at ∙ j.low_home.is_open_now) (ap is_open_at high_at ∙ j.high_home.is_open_now))
      (ap (λ o. are_adjacent (range_of o) (range_of (slice_get xs other))) low_at
      ∙ ap (λ o. are_adjacent j.low.range (range_of o)) high_at ∙ joins_touch xs b j)

  pub join_value : (zs : List ShardState) → zs ≡ after_merge xs sh other n c
      → zs ≡ merged_shards (home_in xs (b - 1)) (home_in xs b) (record { number = n; clock = c }) (n + 1) xs
  join_value zs is =
      is
      ∙ ap (λ o. value_by o xs (merged_shards sh other (record { number = n; clock = c }) (n + 1) xs)) merges
      ∙ ap (λ k. merged_shards k other (record { number = n; clock = c }) (n + 1) xs) is_at
      ∙ ap (λ k. merged_shards (home_in xs (b - 1)) k (record { number = n; clock = c }) (n + 1) xs) beside

  pub join_starts : (zs : List ShardState) → IsScalable xs → 0 < b → zs ≡ after_merge xs sh other n c
      → starts_in zs ≡ without b (starts_in xs)
  join_starts zs ok some is =
      ap starts_in (join_value zs is) ∙ starts_joined xs b (record { number = n; clock = c }) (n + 1) ok some j

-- Here the open shard `sh`, whose range contains the hash key `b`, may be split there.
module _ (xs : List ShardState) (b n c sh : ℕ) (k : Cuts xs b) (is_at : sh ≡ home_in xs b) where
  shard_at : slice_get xs sh ≡ Some k.shard
  shard_at = ap (slice_get xs) is_at ∙ k.is_home.stands

  splits : split_refusal xs sh b ≡ None
  splits =
      no_refusal (is_some (slice_get xs sh)) (is_open_at (slice_get xs sh)) (is_inside (range_of (slice_get xs sh)) b)
      refusal.NoShard refusal.ShardClosed refusal.BadSplit
      (ap is_some shard_at) (ap is_open_at shard_at ∙ k.is_home.is_open_now)
      (ap (λ o. is_inside (range_of o) b) shard_at ∙ k.inside)

  pub cut_value : (zs : List ShardState) → zs ≡ after_split xs sh b n c
      → zs ≡ split_shards (home_in xs b) b (record { number = n; clock = c }) (n + 1) xs
  cut_value zs is =
      is
      ∙ ap (λ o. value_by o xs (split_shards sh b (record { number = n; clock = c }) (n + 1) xs)) splits
      ∙ ap (λ m. split_shards m b (record { number = n; clock = c }) (n + 1) xs) is_at

  pub cut_starts : (zs : List ShardState) → IsScalable xs → is_start (starts_in xs) b ≡ false
      → zs ≡ after_split xs sh b n c → starts_in zs ≡ with_start b (starts_in xs)
  cut_starts zs ok absent is =
      ap starts_in (cut_value zs is) ∙ starts_cut xs b (record { number = n; clock = c }) (n + 1) ok absent k
