use Rattle.std.proofs.Common.{rules}
use Rattle.kds_session.specs.Text.{requested}
use Rattle.kds_session.proofs.request.request.Goals as goal

pub returns-then-not-head-clause-value : goal.returns-then-not-head-clause-value
unfolding requested
returns-then-not-head-clause-value c = search rules
