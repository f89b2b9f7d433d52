use Rattle.std.proofs.Common.{◌≤◌, drop, length, map}
use Rattle.kcl_defs.specs.Plans.{AreRising}
use Rattle.kcl_defs.proofs.keyed.are_rising.Given as goal

-- The keys of the items from the index `i` on rise.
abbrev pub invariant-loop-i : goal.invariant-loop-i
invariant-loop-i g l = (l.i ≤ length l.fn.items) × AreRising (map g.T.Keyed.key_of (drop l.i l.fn.items))

abbrev pub decreases-loop-i : goal.decreases-loop-i
decreases-loop-i g l = l.i
