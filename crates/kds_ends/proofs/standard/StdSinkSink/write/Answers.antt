use Rattle.std.proofs.Common.{rules}
use Rattle.kds_ends.proofs.standard.StdSinkSink.write.Goals as goal

pub returns-in-Ok-clause-cause : goal.returns-in-Ok-clause-cause
returns-in-Ok-clause-cause c = search rules
