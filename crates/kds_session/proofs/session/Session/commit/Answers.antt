use Rattle.std.proofs.Common.{rules}
use Rattle.kds_session.proofs.session.Session.commit.Goals as goal

pub returns-in_err-extend-clause-err : goal.returns-in_err-extend-clause-err
returns-in_err-extend-clause-err c = search rules
