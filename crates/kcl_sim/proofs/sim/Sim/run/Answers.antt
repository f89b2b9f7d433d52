use Rattle.std.proofs.Common.{rules}
use Rattle.kcl_sim.proofs.sim.Sim.run.Goals as goal

pub invariant_of-self-2 : goal.invariant_of-self-2
invariant_of-self-2 c = search rules

pub returns-clause-ran : goal.returns-clause-ran
returns-clause-ran c = search rules
