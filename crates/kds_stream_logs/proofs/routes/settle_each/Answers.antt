use Rattle.std.proofs.Common.{◌∷◌, ◌+◌, drop, map, sym, ap, ◌∙◌}
use Rattle.std.proofs.lemmas.List.{at_drop_more}
use Rattle.kds_defs.specs.declared.reply.Place.{Place}
use Rattle.kds_defs.specs.Streams.{floor_of}
use Rattle.kds_log.specs.Log.{log_of}
use Rattle.kds_stream_logs.specs.Routes.{settled_each}
use Rattle.kds_stream_logs.specs.Logs.{settled_at}
use Rattle.kds_stream_logs.proofs.routes.settle_each.Goals as goal

pub loop-place-preserved : goal.loop-place-preserved
loop-place-preserved c =
    let k = c.loop-place.place-index in
    let ps = c.args.places.now in
    let ls = map log_of c.loop-place.logs in
    let f = floor_of c.args.cut.now in
    ap (settled_each f (drop (k + 1) ps)) (c.settle_at.ensures ∙ ap (λ n. settled_at f n ls) c.shard.view_is)
    ∙ ap (λ (p : Place). settled_each f (p ∷ drop (k + 1) ps) ls) c.place-item.is
    ∙ sym (at_drop_more (λ qs. settled_each f qs ls) ps k c.place-item.result c.loop-place-test.true)
    ∙ c.loop-place.invariant
