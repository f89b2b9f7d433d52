use Rattle.kcl_drill_laws.proofs.AfterClose.{clock_same, still_drill}
use Rattle.kcl_drill_laws.proofs.histories.drained.Goals as goal

pub returns : goal.returns
returns c = record { drill = still_drill; clock = clock_same }
