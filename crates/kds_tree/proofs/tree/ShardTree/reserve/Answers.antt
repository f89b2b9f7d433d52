use Rattle.std.proofs.Common.{rules}
use Rattle.kds_tree.proofs.tree.ShardTree.reserve.Goals as goal

pub returns-clause-spare : goal.returns-clause-spare
returns-clause-spare c = search rules
