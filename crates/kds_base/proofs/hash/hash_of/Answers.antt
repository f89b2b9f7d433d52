use Rattle.std.proofs.Common.{rules}
use Rattle.kds_base.proofs.hash.hash_of.Goals as goal

pub returns : goal.returns
returns c = search rules
