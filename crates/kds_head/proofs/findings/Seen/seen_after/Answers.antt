use Rattle.std.proofs.Common.{rules}
use Rattle.kds_head.proofs.findings.Seen.seen_after.Goals as goal

pub returns-in_default : goal.returns-in_default
returns-in_default c = search rules
