use Rattle.std.proofs.Common.{rules}
use Rattle.kcl_worker.proofs.worker.Worker.idle.Goals as goal

pub returns-then-not-any_giving : goal.returns-then-not-any_giving
returns-then-not-any_giving c = search rules
