use Rattle.std.proofs.Common.{rules}
use Rattle.kds_base.proofs.name.names_byte.Goals as goal

pub returns-then-b-eq46 : goal.returns-then-b-eq46
returns-then-b-eq46 c = search rules
