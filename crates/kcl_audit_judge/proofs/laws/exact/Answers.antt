use Rattle.kcl_audit_judge.proofs.GoodLines.{good_ok, ok_good}
use Rattle.kcl_audit_judge.proofs.laws.exact.Goals as goal

pub returns-clause-good : goal.returns-clause-good
returns-clause-good c = good_ok

pub returns-clause-ok : goal.returns-clause-ok
returns-clause-ok c = ok_good
