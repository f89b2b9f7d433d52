use Rattle.std.proofs.Common.{rules}
use Rattle.kcl_drill_drain.proofs.reading.process.Goals as goal

pub returns-in-Last : goal.returns-in-Last
returns-in-Last c = search rules
