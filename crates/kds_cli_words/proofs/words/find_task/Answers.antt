use Rattle.std.proofs.Common.{rules}
use Rattle.kds_cli_words.proofs.Unseen.{too_many, unseen}
use Rattle.kds_cli_words.proofs.words.find_task.Goals as goal

pub returns-then-len-gt4-clause-task : goal.returns-then-len-gt4-clause-task
returns-then-len-gt4-clause-task c = search (rules, too_many)

pub returns-then-not-are_words-clause-task : goal.returns-then-not-are_words-clause-task
returns-then-not-are_words-clause-task c = search (rules, unseen)
