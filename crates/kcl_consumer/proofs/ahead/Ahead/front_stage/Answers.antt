use Rattle.std.proofs.Common.{rules}
use Rattle.kcl_consumer.proofs.ahead.Ahead.front_stage.Goals as goal

pub returns-else-is_empty-clause-stage : goal.returns-else-is_empty-clause-stage
returns-else-is_empty-clause-stage c = search rules
