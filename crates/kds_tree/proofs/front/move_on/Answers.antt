use Rattle.kds_defs.specs.Streams.{floor_of}
use Rattle.kds_tree.proofs.FrontLemmas.{later_left}
use Rattle.kds_tree.proofs.front.move_on.Goals as goal

pub returns : goal.returns
returns c front =
    c.skip_until-front.ensures (c.remove_expired.ensures c.args.front.now.count
    (later_left (floor_of c.args.front.now.cut) (floor_of c.args.cut) 0 c.args.front.now.count
    c.args.front.now.left.items c.args.shards.now
    (c.is_no_earlier.ensures c.if-not-is_no_earlier.false) front))
