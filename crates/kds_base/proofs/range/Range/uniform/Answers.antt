use Rattle.std.proofs.Common.{◌≡◌, ◌+◌, suc, sym, ◌∙◌, append-nil, arith}
use Rattle.kds_base.proofs.Uniform.{pushed}
use Rattle.kds_base.proofs.range.Range.uniform.Goals as goal

pub loop-i-preserved : goal.loop-i-preserved
loop-i-preserved c = λ k h.
    let e : suc k + c.loop-i.i ≡ c.args.n = omega arith in
    rw c.in_ok-push.ensures.ok
    (pushed c.loop-i.ranges _ c.loop-i.i c.args.n k _ _ (c.loop-i.invariant (suc k) e) c.uniform_start-start.ensures
    h c.uniform_end-end.ensures)

pub returns : goal.returns
returns c =
    let e : 0 + c.loop-i.i ≡ c.args.n = omega arith in
    sym (append-nil c.loop-i.ranges) ∙ c.loop-i.invariant 0 e
