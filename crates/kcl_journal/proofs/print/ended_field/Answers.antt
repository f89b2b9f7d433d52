use Rattle.std.proofs.Common.{rules}
use Rattle.kcl_journal.proofs.print.ended_field.Goals as goal

pub returns-else-end : goal.returns-else-end
returns-else-end c = search rules
