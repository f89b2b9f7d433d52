use Rattle.std.proofs.Common.{rules}
use Rattle.kds_session.proofs.session.Session.sent.Goals as goal

pub returns-clause-value : goal.returns-clause-value
returns-clause-value c = search rules
