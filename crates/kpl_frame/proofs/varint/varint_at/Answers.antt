use Rattle.std.proofs.Common.{rules}
use Rattle.kpl_frame.proofs.varint.varint_at.Goals as goal

pub returns : goal.returns
returns c = search rules
