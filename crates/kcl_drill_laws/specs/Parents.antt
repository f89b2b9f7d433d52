-- Parents of shards, writes of a row, and records of a shard.
use Rattle.std.specs.Prelude.{ℕ, ◌≡◌, ◌*◌, ◌<◌, ◌≤◌, true, List, length, slice_get, Option, Some, None}
use Rattle.std.specs.List.{AllByRecursion}
use Rattle.kds_base.specs.declared.lease_key.ShardRef.{ShardRef}
use Rattle.kds_defs.specs.declared.command.Turn.{Turn}
use Rattle.kds_defs.specs.declared.limits.TheConstants.{MANY_ITEMS}
use Rattle.kds_defs.specs.Histories.{journal}
use Rattle.kds_defs.specs.Leases.{counter_in, row, taken_count}
use Rattle.kds_defs.specs.Listings.{is_closed_at}
use Rattle.kds_defs.specs.Records.{records}
use Rattle.kds_defs.specs.Shards.{ShardState}

-- The parent of the shard `n`, if any, is a closed shard of `xs` with a smaller number.
abbrev pub IsParentClosed : (xs : List ShardState) (n : ℕ) (p : Option ℕ) → Type 0
IsParentClosed xs n None = Unit {0}
IsParentClosed xs n (Some p) = (p < n) × (is_closed_at (slice_get xs p) ≡ true)

-- Both parents of each shard, if any, are closed shards with smaller numbers.
abbrev pub AreParentsClosed : (xs : List ShardState) → Type 0
AreParentsClosed xs =
    AllByRecursion (λ (x : ShardState). IsParentClosed xs x.no x.parent × IsParentClosed xs x.no x.adjacent) xs

-- The rows' counters and the number of tenures are at most the number of turns.
pub record AreCounted (h : List Turn) : Type 0 where
  pub counters : (key : ShardRef) → counter_in (row (journal h) key) ≤ length h
  pub tenures : taken_count (journal h) ≤ length h

-- Each shard has at most `MANY_ITEMS` records for each turn, as many as one PutRecords may put.
abbrev pub AreFewRecords : (h : List Turn) → Type 0
AreFewRecords h = (s sh : ℕ) → length (records (journal h) s sh) ≤ MANY_ITEMS * length h
