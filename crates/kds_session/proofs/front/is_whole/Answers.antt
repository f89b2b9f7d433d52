use Rattle.std.proofs.Common.{rules}
use Rattle.kds_session.proofs.front.is_whole.Goals as goal

pub returns-in-Some : goal.returns-in-Some
returns-in-Some c = search rules
