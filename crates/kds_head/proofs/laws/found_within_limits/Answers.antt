use Rattle.kds_head.proofs.Heads.{limits_in}
use Rattle.kds_head.proofs.laws.found_within_limits.Goals as goal

pub returns : goal.returns
returns c = limits_in
