use Rattle.std.proofs.Common.{rules}
use Rattle.kcl_sim.proofs.print.print_left.Goals as goal

pub returns-in-Some-Refused : goal.returns-in-Some-Refused
returns-in-Some-Refused c = search rules
