use Rattle.std.proofs.Common.{rules}
use Rattle.kcl_sim_scribe.proofs.known.Known.renumber.Goals as goal

pub returns-then-eq-3 : goal.returns-then-eq-3
returns-then-eq-3 c = search rules
