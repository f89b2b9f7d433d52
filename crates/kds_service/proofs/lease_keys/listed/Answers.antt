use Rattle.std.proofs.Common.{◌∙◌}
use Rattle.indexmap.specs.IndexMap.{values}
use Rattle.kds_service.proofs.KeyedShards.{keys_step}
use Rattle.kds_service.proofs.lease_keys.listed.Goals as goal

pub loop-i-preserved : goal.loop-i-preserved
loop-i-preserved c = keys_step (values c.args.streams.now) c.loop-i.i c.index.result.now c.loop-i.keys _ c.index.ensures
    c.in_ok-add_listed.ensures ∙ c.loop-i.invariant
