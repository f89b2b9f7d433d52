use Rattle.std.proofs.Common.{rules, inr}
use Rattle.httparse.specs.Grammar.{NeverHasRequest, EndsInTarget}
use Rattle.kds_head.proofs.Heads.{none_now}
use Rattle.kds_head.proofs.find.find_in.Goals as goal

pub returns-then-ends_in_target-clause-found : goal.returns-then-ends_in_target-clause-found
returns-then-ends_in_target-clause-found c =
    let ends : EndsInTarget c.args.front.now = c.ends_in_target.ensures.0 c.if-ends_in_target.true in
    let never : NeverHasRequest c.args.front.now = search rules in
    inr (inr ((none_now _ never, inr ends), c.undecided-then-ends_in_target.ensures))
