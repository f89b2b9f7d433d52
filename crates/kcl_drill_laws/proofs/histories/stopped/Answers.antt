use Rattle.kcl_drill_laws.proofs.Drills.{is_short_stopped}
use Rattle.kcl_drill_laws.proofs.histories.stopped.Goals as goal

pub returns : goal.returns
returns c = λ number records root feeder members h is. is_short_stopped number records root feeder members h is
