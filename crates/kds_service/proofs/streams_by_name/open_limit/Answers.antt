-- The limit takes off the open shards of all streams but the given one.
use Rattle.std.proofs.Common.{ap, arith}
use Rattle.indexmap.specs.IndexMap.{values}
use Rattle.kds_service.proofs.Lists.{drop_get}
use Rattle.kds_service.specs.Indexes.{open_beside}
use Rattle.kds_service.proofs.streams_by_name.open_limit.Goals as goal

pub loop-i-preserved : goal.loop-i-preserved
loop-i-preserved c =
    let vs = values c.args.streams.now in
    omega (
      arith,
      c.loop-i.invariant,
      ap (λ us. open_beside us c.args.no) (drop_get vs c.loop-i.i _ c.index.ensures),
      c.open_unless-open.ensures,
    )
