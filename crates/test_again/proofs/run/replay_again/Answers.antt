use Rattle.std.proofs.Common.{refl}
use Rattle.test_again.proofs.run.replay_again.Goals as goal

pub read_lines-outcome-requires : goal.read_lines-outcome-requires
read_lines-outcome-requires g c = record { are_lines = refl; made = c.keeping-sim.ensures }
