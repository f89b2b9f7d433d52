use Rattle.std.proofs.Common.{◌≡◌, ◌-◌, ◌≤◌, drop, take, length, ap, ◌∙◌, rules}
use Rattle.std.specs.Prelude.{◌/◌}
use Rattle.kds_defs.specs.declared.limits.TheConstants.{SECOND}
use Rattle.kds_defs.specs.Rates.{is_throttled}
use Rattle.kcl_audit_streams.specs.Standing.{puts_in}
use Rattle.kcl_audit_streams.proofs.SecondSteps.{throttled_latest}
use Rattle.kcl_audit_streams.proofs.shard_records.ShardRecords.is_throttled.Goals as goal

pub returns : goal.returns
returns c =
    let a = c.args in
    let me = c.self.inside in
    let rs = me.items.items in
    let later : me.second ≤ a.clock / SECOND = search rules in
    let is_by : c.is_throttled_by-2.result
    ≡ is_throttled (puts_in (take (length rs - me.start) (drop me.start rs)) a.shard) a.clock a.bytes =
    search rules in
    is_by ∙ throttled_latest me.second me.start a.clock a.shard a.bytes rs c.self.invariant.latest later
    ∙ ap (λ xs. is_throttled (puts_in xs a.shard) a.clock a.bytes) c.self.view_is
