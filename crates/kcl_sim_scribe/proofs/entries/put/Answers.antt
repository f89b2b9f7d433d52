use Rattle.std.proofs.Common.{rules}
use Rattle.kcl_sim_scribe.proofs.entries.put.Goals as goal

pub returns : goal.returns
returns c = search rules
