use Rattle.std.proofs.Common.{rules}
use Rattle.std.proofs.lemmas.List.Sorted.{IsPartitionPoint-from_clause}
use Rattle.kcl_table.proofs.Places.{comes_before, partitioned, index_is}
use Rattle.kcl_table.proofs.search.insertion_index.Goals as goal

pub returns-clause-value : goal.returns-clause-value
returns-clause-value c =
    index_is c.args.key.now c.args.rows.now c.partition_point.result c.partition_point.ensures.bound
    (IsPartitionPoint-from_clause (comes_before c.args.key.now) c.args.rows.now _ c.partition_point.ensures.partitioned
    (partitioned c.args.key.now c.args.rows.now c.requires) (λ a b f' k. search rules))
