use Rattle.std.proofs.Common.{rules}
use Rattle.kcl_sim_scribe.proofs.entries.split.Goals as goal

pub returns : goal.returns
returns c = search rules
