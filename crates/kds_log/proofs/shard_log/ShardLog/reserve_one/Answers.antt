use Rattle.std.proofs.Common.{rules}
use Rattle.kds_log.proofs.shard_log.ShardLog.reserve_one.Goals as goal

pub invariant_of-self-2 : goal.invariant_of-self-2
invariant_of-self-2 c = search rules
