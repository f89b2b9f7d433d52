use Rattle.std.proofs.Common.{List, map, sym, subst, ap, ◌∙◌}
use Rattle.std.specs.List.{AllByRecursion}
use Rattle.kds_defs.specs.Streams.{floor_of}
use Rattle.kds_log.specs.Log.{LogValue, log_of}
use Rattle.kds_stream_logs.proofs.Routings.{can_take_all, places_within}
use Rattle.kds_stream_logs.specs.Routes.{CanTake, settled_each, with_each}
use Rattle.kds_stream_logs.proofs.routes.put_all.Goals as goal

pub release_all-requires : goal.release_all-requires
release_all-requires c =
    places_within c.args.logs.now c.args.routed.items c.args.places.now c.requires.places c.requires.each

pub reserve_all-requires : goal.reserve_all-requires
reserve_all-requires c =
    places_within c.release_all.new.logs c.args.routed.items c.args.places.now c.requires.places
    (subst (λ (ls : List LogValue). AllByRecursion (CanTake ls) c.args.routed.items) (sym c.release_all.ensures)
    c.requires.each)

pub append_all-requires : goal.append_all-requires
append_all-requires c =
    can_take_all (map log_of c.args.logs.now) c.reserve_all.new.logs c.args.routed.items c.args.places.now
    c.requires.places (c.in_ok-reserve_all.ensures.same ∙ c.release_all.ensures) c.requires.each c.requires.in_order
    c.in_ok-reserve_all.ensures.reserved

pub returns-clause-ok : goal.returns-clause-ok
returns-clause-ok c =
    c.settle_each.ensures
    ∙ ap (settled_each (floor_of c.args.cut) c.args.places.now) (c.append_all.ensures
    ∙ ap (with_each c.args.routed.items) (c.in_ok-reserve_all.ensures.same ∙ c.release_all.ensures))
