use Rattle.std.proofs.Common.{rules}
use Rattle.kcl_consumer.proofs.ahead.Ahead.pop_first.Goals as goal

pub returns : goal.returns
returns c = search rules
