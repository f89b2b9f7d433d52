-- What is true of a stream's shards in every state, and when shards may be split or merged.
use Rattle.std.specs.Prelude.{ℕ, ◌≡◌, ◌+◌, ◌^◌, ◌<◌, ◌≤◌, Bool, true, false, if◌then◌else◌, List, [], ◌∷◌, Some}
use Rattle.std.specs.Prelude.{slice_get}
use Rattle.std.specs.List.{AllByRecursion}
use Rattle.kds_base.specs.Span.{Span, are_adjacent, covers, is_inside}
use Rattle.kds_defs.specs.Shards.{ShardState, is_open}

-- 1 if the range contains the key, and 0 otherwise.
abbrev pub one : (r : Span) (k : ℕ) → ℕ
one r k = if covers r k then 1 else 0

-- `n` for a shard that counts, which is an open one, and 0 otherwise.
abbrev pub count_if : (is_counted : Bool) (n : ℕ) → ℕ
count_if true n = n
count_if false n = 0

-- The number of open shards whose range contains the key.
abbrev pub open_times : (xs : List ShardState) (k : ℕ) → ℕ
open_times [] k = 0
open_times (x ∷ xs) k = count_if (is_open x) (one x.range k) + open_times xs k

-- The shard's range isn't empty.
abbrev pub IsOrdered : (x : ShardState) → Type 0
IsOrdered x = x.range.start ≤ x.range.end

-- Each hash key lies in the range of exactly one open shard, and no shard has an empty range.
pub record IsTiled (xs : List ShardState) : Type 0 where
  pub times : (k : ℕ) → k < 2 ^ 128 → open_times xs k ≡ 1
  pub ordered : AllByRecursion IsOrdered xs

-- The shards have the numbers `n`, `n + 1` and so on.
abbrev pub AreNumbered : (n : ℕ) (xs : List ShardState) → Type 0
AreNumbered n [] = Unit {0}
AreNumbered n (x ∷ xs) = (x.no ≡ n) × AreNumbered (n + 1) xs

-- The shard is open and may be split at the key, with neither part empty.
pub record IsSplittable (xs : List ShardState) (shard hash : ℕ) : Type 0 where
  pub state : ShardState
  pub stands : slice_get xs shard ≡ Some state
  pub is_open_now : is_open state ≡ true
  pub inside : is_inside state.range hash ≡ true

-- Both shards are open and their ranges adjacent.
pub record AreMergeable (xs : List ShardState) (shard other : ℕ) : Type 0 where
  pub state : ShardState
  pub adjacent : ShardState
  pub stands : slice_get xs shard ≡ Some state
  pub stands_beside : slice_get xs other ≡ Some adjacent
  pub is_open_now : is_open state ≡ true
  pub is_open_beside : is_open adjacent ≡ true
  pub touch : are_adjacent state.range adjacent.range ≡ true
