use Rattle.kcl_sim.proofs.MoreTurns.{line_grows, part_grows}
use Rattle.kcl_sim.proofs.few_turns.Goals as goal

pub returns : goal.returns
returns c = record { line = line_grows; part = part_grows }
