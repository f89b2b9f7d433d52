use Rattle.std.proofs.Common.{◌<◌, ◌≤◌, sym, subst, arith}
use Rattle.std.specs.Prelude.{IfSome}
use Rattle.std.specs.List.{AllByRecursion}
use Rattle.std.proofs.lemmas.List.{map_push}
use Rattle.kds_defs.specs.Records.{logged}
use Rattle.kds_log.specs.Log.{LogWithReserve}
use Rattle.kds_log.proofs.OrderLemmas.{orderly-append}
use Rattle.kds_log.proofs.shard_log.ShardLog.append_reserved.Goals as goal

pub invariant_of-self : goal.invariant_of-self
invariant_of-self c =
    let e = c.push_back_reserved.ensures.items in (
      rw (e, map_push logged c.self.inside.records.items c.args.item)
          (orderly-append _ (logged c.args.item)
          (subst (λ (v : LogWithReserve). IfSome v.last (λ n. n < c.args.item.seq)) (sym c.self.view_is)
          c.requires.number)
          (subst (λ (v : LogWithReserve). AllByRecursion (λ r. r.arrival ≤ c.args.item.arrival) v.kept)
          (sym c.self.view_is) c.requires.arrival) c.self.invariant.0),
      omega (arith, c.self.invariant.1, c.push_back_reserved.ensures.len, c.push_back_reserved.ensures.capacity),
    )
