use Rattle.kds_defs.specs.Histories.{journal, clock}
use Rattle.kds_cli_runs.proofs.laws.safety.Goals as goal

pub returns : goal.returns
returns c = λ h are. c.step.ensures.safe (journal h) (clock h) (c.step.ensures.history h are)
