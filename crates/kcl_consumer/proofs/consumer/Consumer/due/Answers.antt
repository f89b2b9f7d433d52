use Rattle.std.proofs.Common.{rules}
use Rattle.kcl_consumer.proofs.consumer.Consumer.due.Goals as goal

pub returns-in-Holding : goal.returns-in-Holding
returns-in-Holding c = search rules
