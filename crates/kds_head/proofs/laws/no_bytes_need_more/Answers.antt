use Rattle.kds_head.proofs.Heads.{empty_need}
use Rattle.kds_head.proofs.laws.no_bytes_need_more.Goals as goal

pub returns : goal.returns
returns c = empty_need
