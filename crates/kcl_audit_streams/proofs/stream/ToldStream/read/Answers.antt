use Rattle.std.proofs.Common.{◌-◌, ◌^◌}
use Rattle.kds_defs.specs.declared.limits.TheConstants.{BATCH_BYTES}
use Rattle.kcl_audit_streams.proofs.BatchSteps.{batch_below}
use Rattle.kcl_audit_streams.proofs.stream.ToldStream.read.Goals as goal

pub position_after_numbers-reach-requires : goal.position_after_numbers-reach-requires
position_after_numbers-reach-requires c =
    let a = c.args in
    rw (
      c.as_slice.ensures,
      c.in_ok-numbers.ensures,
      c.ahead-ahead.ensures,
    ) (batch_below (2 ^ 64 - 1) a.shard c.floor-floor.result a.position a.limit BATCH_BYTES
    c.self.inside.records c.self.invariant.1.0)

pub returns-clause-small : goal.returns-clause-small
returns-clause-small c =
    let a = c.args in
    rw (
      c.in_ok-numbers.ensures,
      c.ahead-ahead.ensures,
    ) (batch_below (2 ^ 64 - 1) a.shard c.floor-floor.result a.position a.limit BATCH_BYTES
    c.self.inside.records c.self.invariant.1.0)
