use Rattle.std.proofs.Common.{List, ℕ, subst, sym}
use Rattle.kds_defs.specs.Streams.{floor_of}
use Rattle.kds_tree.specs.Front.{AreLeft}
use Rattle.kds_tree.proofs.front.skip_until.Goals as goal

pub loop-count-init : goal.loop-count-init
loop-count-init c front = front

pub loop-count-preserved : goal.loop-count-preserved
loop-count-preserved c front = c.in-Ok.ensures.ok (c.loop-count.invariant front)

pub returns-in-Err : goal.returns-in-Err
returns-in-Err c front =
    subst (λ (names : List ℕ). AreLeft (floor_of c.args.cut.now) 0 c.loop-count.count names c.args.shards.now)
    (sym c.in-Err.ensures.err)
    (c.loop-count.invariant front)

pub returns-else-count-shards : goal.returns-else-count-shards
returns-else-count-shards c front = c.loop-count.invariant front

pub returns-after-loop-count : goal.returns-after-loop-count
returns-after-loop-count c front = c.loop-count.invariant front
