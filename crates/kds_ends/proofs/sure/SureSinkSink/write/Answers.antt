use Rattle.std.proofs.Common.{rules}
use Rattle.kds_ends.proofs.sure.SureSinkSink.write.Goals as goal

pub returns-clause-whole : goal.returns-clause-whole
returns-clause-whole c = search rules
