use Rattle.kcl_drill_laws.proofs.Parents.{parents_closed}
use Rattle.kcl_drill_laws.proofs.answers.closed_parents.Goals as goal

pub returns : goal.returns
returns c = parents_closed
