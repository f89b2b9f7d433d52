use Rattle.std.proofs.Common.{◌<◌, ◌^◌, arith}
use Rattle.kds_base.proofs.Facts.{ok_value}
use Rattle.kds_scale.proofs.Partitions.{IsScalable, cuts}
use Rattle.kds_stream_logs.proofs.ScaleSteps.{cut_starts, cut_value}
use Rattle.kds_stream_logs.proofs.steps.take_split.Goals as goal

pub returns-clause-value : goal.returns-clause-value
returns-clause-value c =
    let xs = c.args.tree.now.shards in
    let ok : IsScalable xs =
    record { tiled = c.len.ensures.tiled; bounded = c.len.ensures.within; numbered = c.len.ensures.numbered } in
    let below : c.args.start < 2 ^ 128 = omega arith in
    cut_value xs c.args.start c.args.seq c.args.clock c.home-shard.result
    (cuts xs c.args.start ok below c.requires.absent) c.home-shard.ensures.value c.split-children.new.self.shards
    (ok_value c.split-children.result _ (c.split-children.ensures.reserved c.requires.room)
    c.split-children.ensures.value)

pub returns-clause-starts : goal.returns-clause-starts
returns-clause-starts c =
    let xs = c.args.tree.now.shards in
    let ok : IsScalable xs =
    record { tiled = c.len.ensures.tiled; bounded = c.len.ensures.within; numbered = c.len.ensures.numbered } in
    let below : c.args.start < 2 ^ 128 = omega arith in
    cut_starts xs c.args.start c.args.seq c.args.clock c.home-shard.result
    (cuts xs c.args.start ok below c.requires.absent) c.home-shard.ensures.value c.split-children.new.self.shards
    ok c.requires.absent (ok_value c.split-children.result _ (c.split-children.ensures.reserved c.requires.room)
    c.split-children.ensures.value)
