use Rattle.kds_head.proofs.Heads.{stays_found}
use Rattle.kds_head.proofs.laws.decided_stays.Goals as goal

pub returns : goal.returns
returns c = stays_found
