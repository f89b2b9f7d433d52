-- The shard tree of a stream: its value in contracts, its invariant, and why it refuses a split or a merge.
use Rattle.std.specs.Prelude.{ℕ, ◌≡◌, ◌+◌, ◌<◌, ◌^◌, Bool, true, false, ◌&&◌, not, is_some, if◌then◌else◌, List}
use Rattle.std.specs.Prelude.{slice_get, Option, Some, None, Result, Ok, Err}
use Rattle.std.specs.List.{AllByRecursion}
use Rattle.kds_base.specs.Span.{Span, Covers, is_inside, are_adjacent, lower_part, upper_part}
use Rattle.kds_defs.specs.declared.reply.Refusal.{Refusal}
use Rattle.kds_defs.specs.declared.reply.Refusal.TheVariants as refusal
use Rattle.kds_defs.specs.Shards.{ShardState, is_open, is_closed_below, range_of, split_shards, merged_shards}
use Rattle.kds_defs.specs.StreamCommands.{is_open_at}
use Rattle.kds_defs.specs.Tiled.{AreNumbered, IsTiled}

-- The shards in the order of their numbers, and the number of further ones for which memory is reserved.
pub record TreeValue : Type 0 where
  pub shards : List ShardState
  pub spare : ℕ

-- The range of the shard ends at a hash key.
abbrev pub IsWithinKeys : (x : ShardState) → Type 0
IsWithinKeys x = x.range.end < 2 ^ 128

-- The shards are numbered from 0 and tiled (`IsTiled`), with ranges that end below 2^128.
pub record IsTree (xs : List ShardState) : Type 0 where
  pub numbered : AreNumbered 0 xs
  pub tiled : IsTiled xs
  pub within : AllByRecursion IsWithinKeys xs

-- Shard `sh` is a home of the hash key: it is open, and its range contains the key.
pub record IsHome (xs : List ShardState) (key sh : ℕ) : Type 0 where
  pub state : ShardState
  pub made : slice_get xs sh ≡ Some state
  pub is_open_now : is_open state ≡ true
  pub contains : Covers state.range key

-- Whether there is a shard, and it was closed before the time `floor`.
abbrev pub is_expired_at : (floor : ℕ) (x : Option ShardState) → Bool
is_expired_at floor None = false
is_expired_at floor (Some x) = is_closed_below floor x

-- The lower and the upper range after a split of shard `sh` at the key `hash`.
abbrev pub split_parts : (xs : List ShardState) (sh hash : ℕ) → Span × Span
split_parts xs sh hash = (lower_part (range_of (slice_get xs sh)) hash, upper_part (range_of (slice_get xs sh)) hash)

-- ---- Why a split or a merge is refused: the first refusal that applies

-- Why a split of shard `sh` at the key `hash` is refused, if it is (Kinesis API Reference, SplitShard).
abbrev pub split_refusal : (xs : List ShardState) (sh hash : ℕ) → Option Refusal
split_refusal xs sh hash =
    if not (is_some (slice_get xs sh)) then Some refusal.NoShard else
    if not (is_open_at (slice_get xs sh)) then Some refusal.ShardClosed else
    if not (is_inside (range_of (slice_get xs sh)) hash) then Some refusal.BadSplit else
    None

-- Why a merge of two shards is refused, if it is (Kinesis API Reference, MergeShards).
abbrev pub merge_refusal : (xs : List ShardState) (sh other : ℕ) → Option Refusal
merge_refusal xs sh other =
    if not (is_some (slice_get xs sh) && is_some (slice_get xs other)) then Some refusal.NoShard else
    if not (is_open_at (slice_get xs sh) && is_open_at (slice_get xs other)) then Some refusal.ShardClosed else
    if not (are_adjacent (range_of (slice_get xs sh)) (range_of (slice_get xs other))) then Some
    refusal.NotAdjacent else
    None

-- The refusal as an error, or `x` if there is none.
abbrev pub answer_by : {A : Type 0} → (r : Option Refusal) (x : A) → Result A Refusal
answer_by (Some r) x = Err r
answer_by None x = Ok x

-- The value `old` if there is a refusal, and `new` otherwise.
abbrev pub value_by : {A : Type 0} → (r : Option Refusal) (old new : A) → A
value_by (Some r) old new = old
value_by None old new = new

-- The shards after a split that takes the sequence number `number`; unchanged if it is refused.
abbrev pub after_split : (xs : List ShardState) (sh hash number clock : ℕ) → List ShardState
after_split xs sh hash number clock =
    value_by (split_refusal xs sh hash) xs
    (split_shards sh hash (record { number = number; clock = clock }) (number + 1) xs)

-- The shards after a merge that takes the sequence number `number`; unchanged if it is refused.
abbrev pub after_merge : (xs : List ShardState) (sh other number clock : ℕ) → List ShardState
after_merge xs sh other number clock =
    value_by (merge_refusal xs sh other) xs
    (merged_shards sh other (record { number = number; clock = clock }) (number + 1) xs)
