use Rattle.std.proofs.Common.{rules}
use Rattle.std.proofs.lemmas.List.Sorted.{IsPartitionPoint-from_clause}
use Rattle.kcl_defs.proofs.PlaceLemmas.{comes_before, partitioned, index_is}
use Rattle.kcl_defs.proofs.keyed.insertion_index.Goals as goal

pub returns-clause-value : goal.returns-clause-value
returns-clause-value g c =
    let key_of = g.T.Keyed.key_of in
    index_is key_of c.args.key.now c.args.items.now c.partition_point.result c.partition_point.ensures.bound
    (IsPartitionPoint-from_clause (comes_before key_of c.args.key.now) c.args.items.now _
    c.partition_point.ensures.partitioned (partitioned key_of c.args.key.now c.args.items.now c.requires)
    (λ a b f' k. search rules))
