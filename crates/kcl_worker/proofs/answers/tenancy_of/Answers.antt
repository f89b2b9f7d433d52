use Rattle.std.proofs.Common.{rules}
use Rattle.kcl_worker.proofs.answers.tenancy_of.Goals as goal

pub returns : goal.returns
returns c = search rules
