use Rattle.std.proofs.Common.{◌≡◌, drop}
use Rattle.kds_defs.specs.Listings.{are_none}
use Rattle.kds_defs.specs.Records.{left_among}
use Rattle.kcl_audit_streams.specs.Standing.{records_in}
use Rattle.kcl_audit_streams.proofs.records.none_left.Given as goal

-- No record so far is left, so the records still to come decide.
abbrev pub invariant-loop-item : goal.invariant-loop-item
invariant-loop-item l =
    are_none (left_among l.floor l.position (records_in (drop l.item-index l.records) l.shard))
    ≡ are_none (left_among l.floor l.position (records_in l.records l.shard))
