use Rattle.std.proofs.Common.{rules}
use Rattle.kcl_take.proofs.taking.share.Goals as goal

pub returns : goal.returns
returns c = search rules
