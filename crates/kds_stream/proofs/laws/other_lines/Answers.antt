use Rattle.kds_stream.proofs.Others.{shows_other}
use Rattle.kds_stream.proofs.laws.other_lines.Goals as goal

pub returns : goal.returns
returns c = shows_other
