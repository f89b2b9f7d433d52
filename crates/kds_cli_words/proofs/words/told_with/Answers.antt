use Rattle.std.proofs.Common.{rules}
use Rattle.kds_cli_words.proofs.words.told_with.Goals as goal

pub returns-then-eq-clause-task : goal.returns-then-eq-clause-task
returns-then-eq-clause-task c = search rules
