use Rattle.std.proofs.Common.{rules}
use Rattle.kds_log.proofs.record.item_bytes.Goals as goal

pub returns : goal.returns
returns c = search rules
