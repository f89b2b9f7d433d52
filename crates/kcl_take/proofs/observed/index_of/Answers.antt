use Rattle.std.proofs.Common.{rules}
use Rattle.std.proofs.lemmas.List.Sorted.{IsPartitionPoint-from_clause}
use Rattle.kcl_take.proofs.Sights.{comes_before, partitioned, index_is}
use Rattle.kcl_take.proofs.observed.index_of.Goals as goal

pub returns-clause-value : goal.returns-clause-value
returns-clause-value c =
    index_is c.args.key.now c.args.seen.now c.partition_point.result c.partition_point.ensures.bound
    (IsPartitionPoint-from_clause (comes_before c.args.key.now) c.args.seen.now _ c.partition_point.ensures.partitioned
    (partitioned c.args.key.now c.args.seen.now c.requires)
    (λ a b f' k. search rules))
