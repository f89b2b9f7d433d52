use Rattle.kds_tree.proofs.Families.{all_near, none_known}
use Rattle.kds_tree.proofs.family.family_of.Goals as goal

pub returns-in-Some-clause-all : goal.returns-in-Some-clause-all
returns-in-Some-clause-all c = λ families. all_near _ _ _ c.args.no _ families c.in-Some.ensures c.pair_at.ensures

pub returns-in-None-clause-all : goal.returns-in-None-clause-all
returns-in-None-clause-all c = λ families. none_known _ _ c.args.no families c.in-None.ensures
