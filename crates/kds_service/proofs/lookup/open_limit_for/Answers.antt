use Rattle.std.proofs.Common.{rules}
use Rattle.kds_service.proofs.lookup.open_limit_for.Goals as goal

pub returns-in_default : goal.returns-in_default
returns-in_default c = search rules
