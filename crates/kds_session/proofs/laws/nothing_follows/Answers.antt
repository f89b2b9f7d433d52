use Rattle.kds_session.proofs.Texts.{nothing_more}
use Rattle.kds_session.proofs.laws.nothing_follows.Goals as goal

pub returns : goal.returns
returns c = nothing_more
