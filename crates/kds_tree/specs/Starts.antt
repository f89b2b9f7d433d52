-- The starts of open shards (a shard's number and its range's first key), by which homes are found.
use Rattle.std.specs.Prelude.{ℕ, ◌≡◌, Bool, true, not, ◌==◌, ◌&&◌, List, length, map, slice_get, Some}
use Rattle.std.specs.List.{All, Contains, filter}
use Rattle.std.specs.List.Sorted.{IsNonDecreasingBy}
use Rattle.kds_defs.specs.Shards.{ShardState, is_open}
use Rattle.kds_tree.specs.declared.start.OpenStart.{OpenStart}

-- The shard with this number exists and is open, and its range starts at this key.
pub record IsStart (xs : List ShardState) (s : OpenStart) : Type 0 where
  pub state : ShardState
  pub made : slice_get xs s.shard ≡ Some state
  pub is_open_now : is_open state ≡ true
  pub begins : state.range.start ≡ s.key

-- The start of the shard `x` with the number `number`.
abbrev pub open_start_of : (x : ShardState) (number : ℕ) → OpenStart
open_start_of x number = record { key = x.range.start; shard = number }

-- The starts `ss` belong to open shards, and each open shard has its start among them.
pub record AreOf (ss : List OpenStart) (xs : List ShardState) : Type 0 where
  pub each : All (IsStart xs) ss
  pub whole : (number : ℕ) (x : ShardState) → slice_get xs number ≡ Some x → is_open x ≡ true
      → Contains ss (open_start_of x number)

-- The start of the shard, with its own number.
abbrev pub own_start : (x : ShardState) → OpenStart
own_start x = open_start_of x x.no

-- The starts of the open shards, in the order of the shards.
abbrev pub open_starts : (xs : List ShardState) → List OpenStart
open_starts xs = map own_start (filter is_open xs)

-- The list of starts is right: each start of an open shard, as often as it occurs, in the order of keys.
pub record AreStarts (ss : List OpenStart) (xs : List ShardState) : Type 0 where
  pub of : AreOf ss xs
  pub many : (p : OpenStart → Bool) → length (filter p ss) ≡ length (filter p (open_starts xs))
  pub order : IsNonDecreasingBy (λ (s : OpenStart). s.key) ss

-- Whether the start belongs neither to shard `shard` nor to shard `other`.
abbrev pub stays : (shard other : ℕ) (s : OpenStart) → Bool
stays shard other s = not (s.shard == shard) && not (s.shard == other)

-- The hash keys of the starts, in the same order.
abbrev pub starting_keys : (ss : List OpenStart) → List ℕ
starting_keys ss = map (λ (s : OpenStart). s.key) ss
