use Rattle.kds_session.proofs.Texts.{quiet_text}
use Rattle.kds_session.proofs.laws.whole_text.Goals as goal

pub returns : goal.returns
returns c = quiet_text
