use Rattle.std.proofs.Common.{sym}
use Rattle.std.proofs.lemmas.List.{take_all}
use Rattle.kds_head.proofs.find.head_bytes.Goals as goal

pub returns-else-bytes-gt-HEAD_BYTES : goal.returns-else-bytes-gt-HEAD_BYTES
returns-else-bytes-gt-HEAD_BYTES c = sym (take_all _ _ c.if-bytes-gt-HEAD_BYTES.false)
