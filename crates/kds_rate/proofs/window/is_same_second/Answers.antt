use Rattle.std.proofs.Common.{rules}
use Rattle.kds_rate.proofs.window.is_same_second.Goals as goal

pub returns : goal.returns
returns c = search rules
