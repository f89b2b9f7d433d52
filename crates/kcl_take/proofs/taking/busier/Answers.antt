use Rattle.std.proofs.Common.{rules}
use Rattle.kcl_take.proofs.taking.busier.Goals as goal

pub returns-then-worker-other : goal.returns-then-worker-other
returns-then-worker-other c = search rules

pub returns-else-worker-other : goal.returns-else-worker-other
returns-else-worker-other c = search rules
