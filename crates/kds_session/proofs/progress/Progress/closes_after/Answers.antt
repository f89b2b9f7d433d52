use Rattle.std.proofs.Common.{rules}
use Rattle.kds_session.proofs.progress.Progress.closes_after.Goals as goal

pub returns-else-head : goal.returns-else-head
returns-else-head c = search rules
