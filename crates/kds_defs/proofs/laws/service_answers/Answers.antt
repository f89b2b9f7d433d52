use Rattle.kds_defs.specs.Histories.{clock, journal}
use Rattle.std.specs.Prelude.{◌∷◌}
use Rattle.kds_defs.proofs.KindLemmas.{own_answers}
use Rattle.kds_defs.proofs.laws.service_answers.Goals as goal

pub returns : goal.returns
returns c = λ h turn own. own_answers (journal h) (clock (turn ∷ h)) turn.by turn.what own
