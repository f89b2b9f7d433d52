-- The values that represent a row of the lease table and a shard in contracts.
use Rattle.std.specs.Prelude.{ℕ, Option}
use Rattle.kds_base.specs.Span.{Span}
use Rattle.kds_base.specs.declared.lease_key.Checkpoint.{Checkpoint}
use Rattle.kds_base.specs.declared.lease_key.ShardRef.{ShardRef}

-- A row (Kinesis Client Library, lease): `switches` counts takes from another worker since the last mark,
-- `tenure` is the holder or 0, and reading of the shard begins at the sequence number `floor`.
pub record RowValue : Type 0 where
  pub key : ShardRef
  pub owner : Option ℕ
  pub counter : ℕ
  pub checkpoint : Checkpoint
  pub switches : ℕ
  pub tenure : ℕ
  pub floor : ℕ
  pub parent : Option ℕ
  pub adjacent : Option ℕ

-- A shard as replies show it (Kinesis API Reference, Shard), with its starting and ending sequence numbers.
pub record ShardValue : Type 0 where
  pub no : ℕ
  pub range : Span
  pub parent : Option ℕ
  pub adjacent : Option ℕ
  pub start : ℕ
  pub end : Option ℕ
