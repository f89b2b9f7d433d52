use Rattle.std.proofs.Common.{rules}
use Rattle.kds_cli_words.proofs.numbers.drill_task.Goals as goal

pub returns-clause-task : goal.returns-clause-task
returns-clause-task c = search rules

pub returns-clause-within : goal.returns-clause-within
returns-clause-within c = search rules
