use Rattle.std.proofs.Common.{rules}
use Rattle.kcl_drill.proofs.opens.OpenShards.split.Goals as goal

pub returns-clause-ok : goal.returns-clause-ok
returns-clause-ok c = search rules
