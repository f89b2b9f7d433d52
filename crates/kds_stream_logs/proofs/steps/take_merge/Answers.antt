use Rattle.kds_scale.proofs.Partitions.{IsScalable, joins}
use Rattle.kds_stream_logs.proofs.ScaleSteps.{join_starts, join_value}
use Rattle.kds_stream_logs.proofs.steps.take_merge.Goals as goal
use Rattle.kds_base.proofs.Facts.{ok_value}

pub returns-clause-value : goal.returns-clause-value
returns-clause-value c =
    let xs = c.args.tree.now.shards in
    let ok : IsScalable xs =
    record { tiled = c.len.ensures.tiled; bounded = c.len.ensures.within; numbered = c.len.ensures.numbered } in
    join_value xs c.args.start c.args.seq c.args.clock c.home-shard.result c.home-other.result
    (joins xs c.args.start ok c.requires.above c.requires.there) c.home-shard.ensures.value
    c.home-other.ensures.value c.merge-child.new.self.shards
    (ok_value c.merge-child.result _ (c.merge-child.ensures.reserved c.requires.room) c.merge-child.ensures.value)

pub returns-clause-starts : goal.returns-clause-starts
returns-clause-starts c =
    let xs = c.args.tree.now.shards in
    let ok : IsScalable xs =
    record { tiled = c.len.ensures.tiled; bounded = c.len.ensures.within; numbered = c.len.ensures.numbered } in
    join_starts xs c.args.start c.args.seq c.args.clock c.home-shard.result c.home-other.result
    (joins xs c.args.start ok c.requires.above c.requires.there) c.home-shard.ensures.value
    c.home-other.ensures.value c.merge-child.new.self.shards
    ok c.requires.above (ok_value c.merge-child.result _ (c.merge-child.ensures.reserved c.requires.room)
    c.merge-child.ensures.value)
