use Rattle.std.proofs.Common.{rules}
use Rattle.kds_base.proofs.short.Short.as_slice.Goals as goal

pub returns : goal.returns
returns c = search rules
