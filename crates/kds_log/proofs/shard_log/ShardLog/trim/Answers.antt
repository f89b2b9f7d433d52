use Rattle.std.proofs.Common.{Some, List, map, sym, ap, ◌∙◌, subst, arith}
use Rattle.kds_defs.specs.Records.{Logged, left_among, logged}
use Rattle.kds_defs.specs.Streams.{floor_of}
use Rattle.kds_log.specs.Log.{LogValue, LogWithReserve, IsOrderly}
use Rattle.kds_log.proofs.OrderLemmas.{orderly-left}
use Rattle.kds_log.proofs.shard_log.ShardLog.trim.Goals as goal

pub invariant_of-self : goal.invariant_of-self
invariant_of-self c =
    let old : LogValue = record { kept = map logged c.self.inside.records.items; last = c.self.inside.last } in (
      subst (λ (kept : List Logged). IsOrderly (record { kept = kept; last = c.self.inside.last }))
          (sym c.drop_below.ensures.left) (orderly-left old c.floor_of.result 0 c.self.invariant.0),
      omega arith,
    )

pub returns-clause-value : goal.returns-clause-value
returns-clause-value c =
    let f = ap (λ floor. left_among floor 0 (map logged c.self.inside.records.items)) c.floor_of.ensures in
    ap (λ (kept : List Logged). let v : LogValue = record { kept = kept; last = c.self.inside.last } in
    v) (c.drop_below.ensures.left ∙ f)
    ∙ ap (λ (l : LogWithReserve). let v : LogValue = record {
      kept = left_among (floor_of (Some c.args.cut)) 0 l.kept;
      last = l.last;
    } in v) c.self.view_is
