use Rattle.std.proofs.Common.{rules}
use Rattle.kds_ends.proofs.standard.StdSourceSource.read.Goals as goal

pub returns-in-Ok-clause-bytes : goal.returns-in-Ok-clause-bytes
returns-in-Ok-clause-bytes c = search rules
