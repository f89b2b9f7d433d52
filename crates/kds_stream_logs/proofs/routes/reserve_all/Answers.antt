use Rattle.std.proofs.Common.{◌<◌, length, ◌∙◌, arith}
use Rattle.kds_defs.specs.declared.reply.Place.{Place}
use Rattle.kds_stream_logs.proofs.LogLemmas.{all_at, same_at}
use Rattle.kds_stream_logs.proofs.Routings.{reserved_more}
use Rattle.kds_stream_logs.proofs.routes.reserve_all.Goals as goal

pub returns-in_err-reserve_one-clause-same : goal.returns-in_err-reserve_one-clause-same
returns-in_err-reserve_one-clause-same c =
    let inside : c.place-item.result.shard < length c.args.logs.now =
    all_at (λ (p : Place). p.shard < length c.args.logs.now) c.args.places.now c.loop-place.place-index
    c.place-item.result c.loop-place-test.true c.place-item.is c.requires in
    let below : c.shard.inside.0 < length c.loop-place.logs = omega (arith, inside, c.shard.view_is) in
    same_at c.loop-place.logs c.shard.inside.0 c.index-logs-shard.result c.reserve_one.new.self below
    c.in_err-reserve_one.ensures.same ∙ c.loop-place.invariant.same

pub loop-place-preserved : goal.loop-place-preserved
loop-place-preserved c =
    let i = c.loop-place.place-index in
    let inside : c.place-item.result.shard < length c.args.logs.now =
    all_at (λ (p : Place). p.shard < length c.args.logs.now) c.args.places.now i c.place-item.result
    c.loop-place-test.true c.place-item.is c.requires in
    let below : c.shard.inside.0 < length c.loop-place.logs = omega (arith, inside, c.shard.view_is) in
    record {
      same = same_at c.loop-place.logs c.shard.inside.0 c.index-logs-shard.result c.reserve_one.new.self below
          c.in_ok-reserve_one.ensures.same ∙ c.loop-place.invariant.same;
      reserved = reserved_more c.loop-place.logs c.shard.inside.0 c.index-logs-shard.result c.reserve_one.new.self
          c.args.places.now i c.place-item.result below c.shard.view_is c.in_ok-reserve_one.ensures.reserved
          c.loop-place-test.true c.place-item.is c.loop-place.invariant.reserved;
    }
