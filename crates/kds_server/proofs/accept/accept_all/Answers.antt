use Rattle.std.proofs.Common.{rules}
use Rattle.kds_server.proofs.accept.accept_all.Goals as goal

pub returns-in_default-clause-one : goal.returns-in_default-clause-one
returns-in_default-clause-one c = search rules
