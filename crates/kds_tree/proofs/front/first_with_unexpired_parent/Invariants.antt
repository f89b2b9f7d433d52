use Rattle.std.proofs.Common.{length, ◌-◌}
use Rattle.kds_tree.proofs.front.first_with_unexpired_parent.Given as goal

-- The number of shards from the index `child` on.
abbrev pub decreases-loop-child : goal.decreases-loop-child
decreases-loop-child l = length l.shards - l.child
