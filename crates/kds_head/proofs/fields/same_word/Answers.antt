use Rattle.std.proofs.Common.{rules}
use Rattle.kds_head.proofs.fields.same_word.Goals as goal

pub returns : goal.returns
returns c = search rules
