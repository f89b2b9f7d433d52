use Rattle.kds_session.proofs.Texts.{first_parts}
use Rattle.kds_session.proofs.laws.first_part.Goals as goal

pub returns : goal.returns
returns c = first_parts c.one_division.ensures
