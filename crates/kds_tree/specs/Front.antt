-- The front of a list of shards: its first ones, each expired or named as an exception; listings may skip it.
use Rattle.std.specs.Prelude.{ℕ, zero, suc, ◌≡◌, ◌⊎◌, true, Bool, List, [], ◌∷◌, map, take, slice_get, Option}
use Rattle.std.specs.Prelude.{Some, None}
use Rattle.kds_defs.specs.declared.reply.Shard.{Shard}
use Rattle.kds_defs.specs.Listings.{are_more}
use Rattle.kds_defs.specs.Shards.{ShardState, is_closed_below, listed_among, shown}
use Rattle.kds_defs.specs.Streams.{floor_of}

-- The first `count` shards, numbered from `start` on, were closed before the time `floor`, or are among `names`,
-- which rise strictly and belong to the front.
abbrev pub AreLeft : (floor start count : ℕ) (names : List ℕ) (xs : List ShardState) → Type 0
AreLeft floor start zero names xs = names ≡ []
AreLeft floor start (suc count) names [] = ⊥
AreLeft floor start (suc count) [] (x ∷ xs) = (is_closed_below floor x ≡ true) × AreLeft floor (suc start) count [] xs
AreLeft floor start (suc count) (name ∷ names) (x ∷ xs) =
    ((name ≡ start) × AreLeft floor (suc start) count names xs)
    ⊎ ((is_closed_below floor x ≡ true) × AreLeft floor (suc start) count (name ∷ names) xs)

-- The shards, with one more in front if there is one.
abbrev pub picked_before : (x : Option ShardState) (ys : List ShardState) → List ShardState
picked_before None ys = ys
picked_before (Some x) ys = x ∷ ys

-- The shards at these indexes, in the order of the indexes; an index without a shard is left out.
abbrev pub picked : (names : List ℕ) (xs : List ShardState) → List ShardState
picked [] xs = []
picked (name ∷ names) xs = picked_before (slice_get xs name) (picked names xs)

-- The shards that aren't expired at the cut, as replies show them.
abbrev pub listing : (cut : Option ℕ) (xs : List ShardState) → List Shard
listing cut xs = map shown (listed_among (floor_of cut) xs)

-- The page has the first `limit` of all shards, and `more` says whether others follow.
pub record Lists (limit : ℕ) (all now : List Shard) (more : Bool) : Type 0 where
  pub shards : now ≡ take limit all
  pub told : more ≡ are_more limit all
