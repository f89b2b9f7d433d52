use Rattle.std.proofs.Common.{rules}
use Rattle.kcl_drill_threads.proofs.asking.ask_next.Goals as goal

pub returns-clause-err : goal.returns-clause-err
returns-clause-err c = search rules

pub returns-clause-asked : goal.returns-clause-asked
returns-clause-asked c = search rules
