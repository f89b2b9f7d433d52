use Rattle.std.proofs.Common.{rules}
use Rattle.kcl_drill.proofs.plan.middle_of.Goals as goal

pub returns : goal.returns
returns c = search rules
