use Rattle.kcl_audit_streams.proofs.RateSteps.{IsTaken}
use Rattle.kcl_audit_streams.proofs.records.is_throttled_by.Given as goal

-- Count and bytes so far are for the shard's puts in the clock's second.
abbrev pub invariant-loop-item : goal.invariant-loop-item
invariant-loop-item l = IsTaken l.shard l.clock l.records l.item-index l.count l.held
