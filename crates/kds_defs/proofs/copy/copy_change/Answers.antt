use Rattle.std.proofs.Common.{rules}
use Rattle.kds_defs.proofs.copy.copy_change.Goals as goal

pub returns-in_ok-name-in-Create : goal.returns-in_ok-name-in-Create
returns-in_ok-name-in-Create c = search rules
