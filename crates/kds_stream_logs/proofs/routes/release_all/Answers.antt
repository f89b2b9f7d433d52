use Rattle.std.proofs.Common.{◌<◌, length, ◌∙◌, arith}
use Rattle.kds_defs.specs.declared.reply.Place.{Place}
use Rattle.kds_stream_logs.proofs.LogLemmas.{all_at, same_at}
use Rattle.kds_stream_logs.proofs.routes.release_all.Goals as goal

pub loop-place-preserved : goal.loop-place-preserved
loop-place-preserved c =
    let inside : c.place-item.result.shard < length c.args.logs.now =
    all_at (λ (p : Place). p.shard < length c.args.logs.now) c.args.places.now c.loop-place.place-index
    c.place-item.result c.loop-place-test.true c.place-item.is c.requires in
    let below : c.shard.inside.0 < length c.loop-place.logs = omega (arith, inside, c.shard.view_is) in
    same_at c.loop-place.logs c.shard.inside.0 c.index-logs-shard.result c.release.new.self below c.release.ensures.same
    ∙ c.loop-place.invariant
