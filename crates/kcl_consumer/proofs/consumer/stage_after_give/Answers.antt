use Rattle.std.proofs.Common.{rules}
use Rattle.kcl_consumer.proofs.consumer.stage_after_give.Goals as goal

pub returns-then-lost-clause-stage : goal.returns-then-lost-clause-stage
returns-then-lost-clause-stage c = search rules
