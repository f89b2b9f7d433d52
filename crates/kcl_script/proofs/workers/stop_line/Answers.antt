use Rattle.std.proofs.Common.{rules}
use Rattle.kcl_script.proofs.workers.stop_line.Goals as goal

pub returns : goal.returns
returns c = search rules
