use Rattle.std.proofs.Common.{rules}
use Rattle.kds_base.proofs.octets.Octets.extend.Goals as goal

pub returns-in_ok-own-in-Shared-clause-ok : goal.returns-in_ok-own-in-Shared-clause-ok
returns-in_ok-own-in-Shared-clause-ok c = search rules
