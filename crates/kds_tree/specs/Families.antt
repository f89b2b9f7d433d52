-- The index of each shard's first child; a shard has at most two children, with consecutive numbers.
use Rattle.std.specs.Prelude.{ℕ, ◌≡◌, ◌+◌, ◌≤◌, true, List, length, slice_get, Option, Some, None}
use Rattle.kds_defs.specs.Shards.{ShardState, is_child, is_open}

-- The number of a shard's first child, if the index has the shard and it has a child.
abbrev pub flat : (reported : Option (Option ℕ)) → Option ℕ
flat None = None
flat (Some reported) = reported

-- A child may have the number `index`: the first child's number or the next one.
abbrev pub MayStandAt : (first : Option ℕ) (index : ℕ) → Type 0
MayStandAt None index = ⊥
MayStandAt (Some first) index = (first ≤ index) × (index ≤ first + 1)

-- The index fits the shards: a child has its parent's entry or the next number, and open shards have no children.
pub record AreFamilies (firsts : List (Option ℕ)) (xs : List ShardState) : Type 0 where
  pub long : length firsts ≡ length xs
  pub each : (parent index : ℕ) (x : ShardState) → slice_get xs index ≡ Some x → is_child parent x ≡ true
      → MayStandAt (flat (slice_get firsts parent)) index
  pub young : (index : ℕ) (x : ShardState) → slice_get xs index ≡ Some x → is_open x ≡ true
      → slice_get firsts index ≡ Some None
