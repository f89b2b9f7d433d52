use Rattle.std.proofs.Common.{length, ◌-◌}
use Rattle.kds_defs.specs.Streams.{floor_of}
use Rattle.kds_tree.specs.Front.{AreLeft}
use Rattle.kds_tree.proofs.front.skip_until.Given as goal

-- If the first `start` shards were a front, the first `count` shards are one now.
abbrev pub invariant-loop-count : goal.invariant-loop-count
invariant-loop-count l =
    AreLeft (floor_of l.cut) 0 l.start l.initial.left.items l.shards
    → AreLeft (floor_of l.cut) 0 l.count l.left.items l.shards

-- The number of shards from the index `count` on.
abbrev pub decreases-loop-count : goal.decreases-loop-count
decreases-loop-count l = length l.shards - l.count
