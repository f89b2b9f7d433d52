use Rattle.std.proofs.Common.{rules}
use Rattle.std.specs.Prelude.{nat_lt}
use Rattle.std.proofs.lemmas.List.Sorted.{IsPartitionPoint-from_clause, IsPartitionedBy-ltb}
use Rattle.kcl_audit_streams.proofs.OrderSteps.{left_from, left_since}
use Rattle.kcl_audit_streams.proofs.records.from_left.Goals as goal

pub returns-then-below-before : goal.returns-then-below-before
returns-then-below-before c = λ shard.
    let xs = c.args.records.now in
    let parted = IsPartitionedBy-ltb (λ r. r.arrival) xs c.args.floor c.requires.arrivals in
    let point = IsPartitionPoint-from_clause (λ r. nat_lt r.arrival c.args.floor) xs c.partition_point-before.result
    c.partition_point-before.ensures.partitioned parted (λ a r f' k. search rules) in
    left_since shard c.args.floor c.args.position xs c.partition_point-before.result point

pub returns-else-below-before : goal.returns-else-below-before
returns-else-below-before c = λ shard.
    let xs = c.args.records.now in
    let parted = IsPartitionedBy-ltb (λ r. r.seq) xs c.args.position c.requires.seqs in
    let point = IsPartitionPoint-from_clause (λ r. nat_lt r.seq c.args.position) xs c.partition_point-below.result
    c.partition_point-below.ensures.partitioned parted (λ a r f' k. search rules) in
    left_from shard c.args.floor c.args.position xs c.partition_point-below.result point
