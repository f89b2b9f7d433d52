use Rattle.std.proofs.Common.{◌≡◌, ◌++◌, drop}
use Rattle.kds_defs.specs.declared.limits.TheConstants.{BATCH_BYTES}
use Rattle.kds_defs.specs.Records.{beginning, left_among, numbers_of}
use Rattle.kcl_audit_streams.specs.Standing.{records_in}
use Rattle.kcl_audit_streams.proofs.records.batch.Given as goal

-- Numbers so far, then the batch from the records still to come, are the whole batch.
abbrev pub invariant-loop-item : goal.invariant-loop-item
invariant-loop-item l =
    l.numbers ++ numbers_of
    (beginning l.left l.room (left_among l.floor l.position (records_in (drop l.item-index l.records) l.shard)))
    ≡ numbers_of (beginning l.limit BATCH_BYTES (left_among l.floor l.position (records_in l.records l.shard)))
