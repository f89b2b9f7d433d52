use Rattle.std.proofs.Common.{rules}
use Rattle.kds_reply.proofs.faults.fault.Goals as goal

pub returns : goal.returns
returns c = search rules
