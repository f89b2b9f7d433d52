use Rattle.std.proofs.Common.{rules}
use Rattle.kcl_journal.proofs.numbers.counter_of.Goals as goal

pub returns : goal.returns
returns c = search rules
