-- Checkpoints of leases: how far a shard has been processed (Kinesis Client Library, checkpoint).
use Rattle.std.specs.Prelude.{Bool, true, false}
use Rattle.kds_base.specs.declared.lease_key.Checkpoint.{Checkpoint}
use Rattle.kds_base.specs.declared.lease_key.Checkpoint.TheVariants.{TrimHorizon, At, ShardEnd}

-- Whether the whole shard has been processed.
abbrev pub is_end : (checkpoint : Checkpoint) → Bool
is_end TrimHorizon = false
is_end (At q) = false
is_end ShardEnd = true
