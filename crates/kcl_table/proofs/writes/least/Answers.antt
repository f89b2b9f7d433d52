use Rattle.std.proofs.Common.{rules}
use Rattle.kcl_table.proofs.writes.least.Goals as goal

pub returns-in_default : goal.returns-in_default
returns-in_default c = search rules
