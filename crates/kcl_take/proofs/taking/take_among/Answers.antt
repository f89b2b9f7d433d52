use Rattle.std.proofs.Common.{rules}
use Rattle.kcl_take.proofs.taking.take_among.Goals as goal

pub returns : goal.returns
returns c = search rules
