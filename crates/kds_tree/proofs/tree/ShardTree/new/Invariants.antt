use Rattle.std.proofs.Common.{◌≡◌, ◌++◌, drop}
use Rattle.kds_defs.specs.Shards.{first_shards, made_shards}
use Rattle.kds_tree.proofs.tree.ShardTree.new.Given as goal

-- The shards made so far, followed by a shard for each remaining range, are all shards.
abbrev pub invariant-loop-i : goal.invariant-loop-i
invariant-loop-i l = l.shards.items ++ first_shards l.i 1 (drop l.i l.range-items) ≡ made_shards l.n 1
