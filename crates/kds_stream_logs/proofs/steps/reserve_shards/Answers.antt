use Rattle.std.proofs.Common.{rules}
use Rattle.kds_stream_logs.proofs.steps.reserve_shards.Goals as goal

pub returns-clause-spare : goal.returns-clause-spare
returns-clause-spare c = search rules
