use Rattle.std.proofs.Common.{rules}
use Rattle.kcl_proc.proofs.users.last_but_one.Goals as goal

pub returns-else-batch-lt2 : goal.returns-else-batch-lt2
returns-else-batch-lt2 c = search rules
