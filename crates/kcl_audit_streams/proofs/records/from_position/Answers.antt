use Rattle.std.proofs.Common.{rules}
use Rattle.std.specs.Prelude.{nat_lt}
use Rattle.std.proofs.lemmas.List.Sorted.{IsPartitionPoint-from_clause, IsPartitionedBy-ltb}
use Rattle.kcl_audit_streams.proofs.OrderSteps.{left_from}
use Rattle.kcl_audit_streams.proofs.records.from_position.Goals as goal

pub returns : goal.returns
returns c = λ shard floor.
    let xs = c.args.records.now in
    let parted = IsPartitionedBy-ltb (λ r. r.seq) xs c.args.position c.requires in
    let point = IsPartitionPoint-from_clause (λ r. nat_lt r.seq c.args.position) xs c.partition_point-start.result
    c.partition_point-start.ensures.partitioned parted (λ a r f' k. search rules) in
    left_from shard floor c.args.position xs c.partition_point-start.result point
