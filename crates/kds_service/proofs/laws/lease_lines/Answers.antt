use Rattle.kds_service.proofs.Lives.{shows_lease}
use Rattle.kds_service.proofs.laws.lease_lines.Goals as goal

pub returns : goal.returns
returns c = λ w log line all clock none. shows_lease w line log c.other_lines.ensures all clock none
