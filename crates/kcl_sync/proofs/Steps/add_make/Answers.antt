use Rattle.std.proofs.Common.{rules}
use Rattle.kcl_sync.proofs.Steps.add_make.Goals as goal

pub returns-clause-steps : goal.returns-clause-steps
returns-clause-steps c = search rules
