use Rattle.std.proofs.Common.{rules}
use Rattle.kds_defs.proofs.command.Command.stream_name.Goals as goal

pub returns-in-Delete : goal.returns-in-Delete
returns-in-Delete c = search rules
