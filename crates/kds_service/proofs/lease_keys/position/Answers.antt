use Rattle.std.proofs.Common.{◌≡◌}
use Rattle.indexmap.specs.IndexMap.{values}
use Rattle.kds_defs.specs.Keys.{ref}
use Rattle.kds_defs.specs.Origins.{origin_position}
use Rattle.kds_service.proofs.KeyedShards.{at_key}
use Rattle.kds_service.proofs.lease_keys.position.Goals as goal

pub returns-in-Some : goal.returns-in-Some
returns-in-Some c = λ clock b n log all.
    let a = c.args in
    at_key (λ m s. c.position.result ≡ origin_position log m (ref s a.key.now.shard) a.from)
    log clock b n a.key.now.stream (values a.streams.now) c.in-Some.stream.now all c.in-Some.ensures
    (c.position.ensures log)
