use Rattle.std.proofs.Common.{rules}
use Rattle.kcl_worker_lists.proofs.leases.renew_if.Goals as goal

pub returns-then-same : goal.returns-then-same
returns-then-same c = search rules
