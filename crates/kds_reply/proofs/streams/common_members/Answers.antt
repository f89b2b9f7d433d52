use Rattle.std.proofs.Common.{rules}
use Rattle.kds_reply.proofs.streams.common_members.Goals as goal

pub returns : goal.returns
returns c = search rules
