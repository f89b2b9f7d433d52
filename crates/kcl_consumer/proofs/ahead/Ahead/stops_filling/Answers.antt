use Rattle.std.proofs.Common.{rules}
use Rattle.kcl_consumer.proofs.ahead.Ahead.stops_filling.Goals as goal

pub returns-else-f : goal.returns-else-f
returns-else-f c = search rules
