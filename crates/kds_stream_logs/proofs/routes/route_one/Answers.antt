use Rattle.std.proofs.Common.{arith}
use Rattle.std.proofs.lemmas.Option.{slice_get_within}
use Rattle.kds_stream_logs.proofs.Routings.{placed_more, placed_same}
use Rattle.kds_stream_logs.proofs.routes.route_one.Goals as goal

pub returns-then-holds_back_or_counts-clause-placed : goal.returns-then-holds_back_or_counts-clause-placed
returns-then-holds_back_or_counts-clause-placed c _ first placed =
    let saved = placed_same c.args.tree.now.shards c.args.clock first c.args.routes.now c.save.new.self
    c.save.ensures.routed c.save.ensures.places c.save.ensures.next placed in
    placed_same c.args.tree.now.shards c.args.clock first c.save.new.self c.add_throttled.new.self
    c.in_ok-add_throttled.ensures.routed c.in_ok-add_throttled.ensures.places c.in_ok-add_throttled.ensures.next saved

pub returns-clause-placed : goal.returns-clause-placed
returns-clause-placed c _ first placed =
    let saved = placed_same c.args.tree.now.shards c.args.clock first c.args.routes.now c.save.new.self
    c.save.ensures.routed c.save.ensures.places c.save.ensures.next placed in
    placed_more c.args.tree.now.shards c.args.clock first c.home-shard.result c.save.new.self c.add_accepted.new.self
    c.args.item c.home-shard.ensures.value c.in_ok-add_accepted.ensures.routed c.in_ok-add_accepted.ensures.places
    c.in_ok-add_accepted.ensures.next (omega (arith, saved.fits, c.in_ok-add_accepted.ensures.next))
    (slice_get_within c.args.tree.now.shards c.home-shard.result c.home-shard.ensures.found.state
    c.home-shard.ensures.found.made) saved
