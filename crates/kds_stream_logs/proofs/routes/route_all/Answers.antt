use Rattle.std.proofs.Common.{◌≡◌, List, [], ap, ◌∙◌, arith, rules}
use Rattle.kds_stream_logs.specs.declared.windows.SavedWindow.{SavedWindow}
use Rattle.kds_stream_logs.specs.Saved.{restored}
use Rattle.kds_stream_logs.proofs.Routings.{goes_on, placed_none, routed_all, routed_none}
use Rattle.kds_stream_logs.proofs.routes.route_all.Goals as goal

pub loop-item-init : goal.loop-item-init
loop-item-init c = record {
  goes_on = λ f stand. routed_none c.args.tree.now.shards c.args.clock c.args.enforced f c.args.first c.args.items.items
      c.in_ok-routes.routes c.args.windows.now c.in_ok-routes.ensures.routed c.in_ok-routes.ensures.outcomes
      c.in_ok-routes.ensures.next stand;
  placed = placed_none c.args.tree.now.shards c.args.clock c.args.first c.in_ok-routes.routes
      c.in_ok-routes.ensures.routed c.in_ok-routes.ensures.places c.in_ok-routes.ensures.next c.ranges.first.fits;
  counted = c.requires.counted;
  many = c.requires.many;
  saved = ap (λ (ss : List SavedWindow). restored ss c.args.windows.now) c.in_ok-routes.ensures.saved;
}

pub loop-item-preserved : goal.loop-item-preserved
loop-item-preserved c = record {
  goes_on = λ f stand.
      let h = c.loop-item.invariant.goes_on f stand in
      goes_on c.args.tree.now.shards c.args.clock c.args.enforced f c.args.first c.args.items.items
      c.loop-item.items.items c.pop_front.new.self.items c.in-Some.item c.loop-item.routes c.route_one.new.routes
      c.loop-item.windows c.route_one.new.windows
      c.in-Some.ensures.items h (c.in-Ok.ensures.routed c.if-not-more.false h.present h.stand);
  placed = c.in-Ok.ensures.placed c.if-not-more.false c.args.first c.loop-item.invariant.placed;
  counted = c.in-Ok.ensures.counted;
  many = omega (arith, c.loop-item.invariant.many, c.route_one.auto.windows);
  saved = c.route_one.ensures.saved ∙ c.loop-item.invariant.saved;
}

pub returns-clause-routed : goal.returns-clause-routed
returns-clause-routed c f stand =
    let none : c.loop-item.items.items ≡ [] = search rules in
    routed_all c.args.tree.now.shards c.args.clock c.args.enforced f c.args.first c.args.items.items
    c.loop-item.items.items c.loop-item.routes c.loop-item.windows none (c.loop-item.invariant.goes_on f stand)
