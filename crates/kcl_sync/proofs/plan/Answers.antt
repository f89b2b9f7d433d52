use Rattle.std.proofs.Common.{rules}
use Rattle.kcl_sync.proofs.plan.Goals as goal

pub returns : goal.returns
returns c = search rules
