use Rattle.std.proofs.Common.{rules}
use Rattle.kcl_defs.proofs.plans.Held.renewed.Goals as goal

pub returns : goal.returns
returns c = search rules
