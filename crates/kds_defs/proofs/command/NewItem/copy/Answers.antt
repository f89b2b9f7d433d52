use Rattle.std.proofs.Common.{rules}
use Rattle.kds_defs.proofs.command.NewItem.copy.Goals as goal

pub returns : goal.returns
returns c = search rules
