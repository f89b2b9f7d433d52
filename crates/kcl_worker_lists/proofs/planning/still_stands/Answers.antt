use Rattle.std.proofs.Common.{rules}
use Rattle.kcl_worker_lists.proofs.planning.still_stands.Goals as goal

pub returns-in-None : goal.returns-in-None
returns-in-None c = search rules
