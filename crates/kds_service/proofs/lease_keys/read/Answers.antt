use Rattle.std.proofs.Common.{◌≡◌, map}
use Rattle.std.specs.Prelude.{IfOk}
use Rattle.indexmap.specs.IndexMap.{values}
use Rattle.kds_defs.specs.Listings.{ends_at}
use Rattle.kds_defs.specs.Records.{batch, numbers_of, position_after, stored}
use Rattle.kds_service.proofs.KeyedShards.{at_key}
use Rattle.kds_service.proofs.lease_keys.read.Goals as goal

pub returns-in-Some-clause-batch : goal.returns-in-Some-clause-batch
returns-in-Some-clause-batch c = λ clock b n log all.
    let a = c.args in
    at_key (λ m s. IfOk c.read.result (λ r. r.0 ≡ map stored (batch log m s a.key.now.shard a.position a.limit)))
    log clock b n a.key.now.stream (values a.streams.now) c.in-Some.stream.now all c.in-Some.ensures
    (c.read.ensures.batch log)

pub returns-in-Some-clause-end : goal.returns-in-Some-clause-end
returns-in-Some-clause-end c = λ clock b n log all.
    let a = c.args in
    at_key (λ m s. IfOk c.read.result
    (λ r. r.1 ≡ ends_at log m s a.key.now.shard
    (position_after a.position (numbers_of (batch log m s a.key.now.shard a.position a.limit)))))
    log clock b n a.key.now.stream (values a.streams.now) c.in-Some.stream.now all c.in-Some.ensures
    (c.read.ensures.end log)
