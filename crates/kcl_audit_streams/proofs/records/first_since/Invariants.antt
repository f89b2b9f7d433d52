use Rattle.std.proofs.Common.{◌≡◌, drop}
use Rattle.kds_defs.specs.Records.{first_at, left_among}
use Rattle.kcl_audit_streams.specs.Standing.{records_in}
use Rattle.kcl_audit_streams.proofs.records.first_since.Given as goal

-- No record so far is the first one, so the records still to come give the same.
abbrev pub invariant-loop-item : goal.invariant-loop-item
invariant-loop-item l =
    first_at (left_among l.floor 0 (records_in (drop l.item-index l.records) l.shard)) l.moment l.otherwise
    ≡ first_at (left_among l.floor 0 (records_in l.records l.shard)) l.moment l.otherwise
