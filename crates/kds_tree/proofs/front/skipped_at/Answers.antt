use Rattle.std.proofs.Common.{List, ℕ, subst, sym}
use Rattle.kds_defs.specs.Streams.{floor_of}
use Rattle.kds_tree.specs.Front.{AreLeft}
use Rattle.kds_tree.proofs.FrontLemmas.{later_left}
use Rattle.kds_tree.proofs.front.skipped_at.Goals as goal

pub returns-then-is_no_earlier : goal.returns-then-is_no_earlier
returns-then-is_no_earlier c front =
    subst (λ (names : List ℕ). AreLeft (floor_of c.args.cut.now) 0 c.args.front.now.count names c.args.shards.now)
    (sym c.deref.ensures.value)
    (later_left (floor_of c.args.front.now.cut) (floor_of c.args.cut.now) 0 c.args.front.now.count
    c.args.front.now.left.items c.args.shards.now
    (c.is_no_earlier.ensures c.if-is_no_earlier.true) front)
