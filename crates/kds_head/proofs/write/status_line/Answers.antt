use Rattle.std.proofs.Common.{◌≡◌, refl, arith}
use Rattle.std.proofs.lemmas.Bool.Decides.{nat_tests}
use Rattle.std.specs.Fmt.{digits}
use Rattle.kds_head.proofs.write.status_line.Goals as goal

pub returns-in-200-clause-line : goal.returns-in-200-clause-line
unfolding digits
returns-in-200-clause-line c = rw c.in-200.is refl

pub returns-in-400-clause-line : goal.returns-in-400-clause-line
unfolding digits
returns-in-400-clause-line c = rw c.in-400.is refl

pub returns-in-404-clause-line : goal.returns-in-404-clause-line
unfolding digits
returns-in-404-clause-line c = rw c.in-404.is refl

pub returns-in-405-clause-line : goal.returns-in-405-clause-line
unfolding digits
returns-in-405-clause-line c = rw c.in-405.is refl

pub returns-in-411-clause-line : goal.returns-in-411-clause-line
unfolding digits
returns-in-411-clause-line c = rw c.in-411.is refl

pub returns-in-413-clause-line : goal.returns-in-413-clause-line
unfolding digits
returns-in-413-clause-line c = rw c.in-413.is refl

pub returns-in-431-clause-line : goal.returns-in-431-clause-line
unfolding digits
returns-in-431-clause-line c = rw c.in-431.is refl

pub returns-in_default-clause-line : goal.returns-in_default-clause-line
unfolding digits
returns-in_default-clause-line c = let is : c.args.status ≡ 501 = grind (arith, nat_tests, c.requires) in rw is refl
