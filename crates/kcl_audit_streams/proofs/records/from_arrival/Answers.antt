use Rattle.std.proofs.Common.{rules}
use Rattle.std.specs.Prelude.{nat_lt}
use Rattle.std.proofs.lemmas.List.Sorted.{IsPartitionPoint-from_clause, IsPartitionedBy-ltb}
use Rattle.kcl_audit_streams.proofs.ArrivalSteps.{first_from}
use Rattle.kcl_audit_streams.proofs.records.from_arrival.Goals as goal

pub returns : goal.returns
returns c = λ shard floor moment otherwise is.
    let xs = c.args.records.now in
    let parted = IsPartitionedBy-ltb (λ r. r.arrival) xs c.args.least c.requires in
    let point = IsPartitionPoint-from_clause (λ r. nat_lt r.arrival c.args.least) xs c.partition_point-start.result
    c.partition_point-start.ensures.partitioned parted (λ a r f' k. search rules) in
    first_from shard floor moment otherwise c.args.least xs c.partition_point-start.result is point
