use Rattle.std.proofs.Common.{◌≡◌, ◌<◌, List, length, map, sym, subst, ap, ◌∙◌, arith}
use Rattle.kds_log.specs.Log.{log_of}
use Rattle.kds_stream_logs.proofs.LogLemmas.{all_logs_at, as_many_logs, under_some}
use Rattle.kds_stream_logs.proofs.Routings.{reserved_is, reserved_left, taken_one, with_one}
use Rattle.kds_stream_logs.specs.declared.routes.Routed.{Routed}
use Rattle.kds_stream_logs.specs.Routes.{CanTakeAll, with_each}
use Rattle.kds_stream_logs.specs.Logs.{HasArrived, IsBelow}
use Rattle.kds_stream_logs.proofs.routes.append_all.Goals as goal

pub append_reserved-requires-clause-reserved : goal.append_reserved-requires-clause-reserved
append_reserved-requires-clause-reserved c =
    let can = subst (CanTakeAll c.loop-next.logs) c.in-Some.ensures.items c.loop-next.invariant.can in
    let below : c.shard.inside.0 < length c.loop-next.logs =
    omega (arith, can.each.0.within, as_many_logs c.loop-next.logs, c.shard.view_is) in
    let is_at : c.shard.inside.0 ≡ c.in-Some.next.shard = c.shard.view_is in
    omega (
      arith,
      reserved_left c.loop-next.logs c.shard.inside.0 c.in-Some.next c.pop_front.new.self.items is_at can,
      reserved_is c.loop-next.logs c.shard.inside.0 c.index-logs-shard.result below,
    )

pub append_reserved-requires-clause-number : goal.append_reserved-requires-clause-number
append_reserved-requires-clause-number c =
    let can = subst (CanTakeAll c.loop-next.logs) c.in-Some.ensures.items c.loop-next.invariant.can in
    let below : c.shard.inside.0 < length c.loop-next.logs =
    omega (arith, can.each.0.within, as_many_logs c.loop-next.logs, c.shard.view_is) in
    under_some _ _ (all_logs_at (IsBelow c.in-Some.next.item.seq) c.loop-next.logs c.shard.inside.0
    c.index-logs-shard.result below can.each.0.number)

pub append_reserved-requires-clause-arrival : goal.append_reserved-requires-clause-arrival
append_reserved-requires-clause-arrival c =
    let can = subst (CanTakeAll c.loop-next.logs) c.in-Some.ensures.items c.loop-next.invariant.can in
    let below : c.shard.inside.0 < length c.loop-next.logs =
    omega (arith, can.each.0.within, as_many_logs c.loop-next.logs, c.shard.view_is) in
    all_logs_at (HasArrived c.in-Some.next.item.arrival) c.loop-next.logs c.shard.inside.0 c.index-logs-shard.result
    below can.each.0.arrival

pub loop-next-preserved : goal.loop-next-preserved
loop-next-preserved c =
    let next = c.in-Some.next in
    let rest = c.pop_front.new.self.items in
    let can = subst (CanTakeAll c.loop-next.logs) c.in-Some.ensures.items c.loop-next.invariant.can in
    let below : c.shard.inside.0 < length c.loop-next.logs =
    omega (arith, can.each.0.within, as_many_logs c.loop-next.logs, c.shard.view_is) in
    record {
      can = taken_one c.loop-next.logs c.shard.inside.0 c.index-logs-shard.result c.append_reserved.new.self next rest
          c.shard.view_is below c.append_reserved.ensures.reserved c.append_reserved.ensures.value can;
      goes_on =
          with_one c.loop-next.logs c.shard.inside.0 c.index-logs-shard.result c.append_reserved.new.self next rest
          c.shard.view_is below c.append_reserved.ensures.reserved c.append_reserved.ensures.value can
          ∙ ap (λ (rs : List Routed). with_each rs (map log_of c.loop-next.logs)) (sym c.in-Some.ensures.items)
          ∙ c.loop-next.invariant.goes_on;
    }
