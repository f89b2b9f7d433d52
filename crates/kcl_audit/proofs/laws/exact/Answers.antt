use Rattle.kcl_audit.proofs.Fits.{tellable_fit}
use Rattle.kcl_audit.proofs.laws.exact.Goals as goal

pub returns-clause-ok : goal.returns-clause-ok
returns-clause-ok c = λ log v e is_told. c.exact.ensures.ok log e.clock e.by e.what (tellable_fit v e.what is_told)
