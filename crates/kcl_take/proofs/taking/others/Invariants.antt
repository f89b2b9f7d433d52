use Rattle.std.proofs.Common.{◌≡◌, ◌≤◌, drop, length}
use Rattle.kcl_defs.specs.Plans.{others}
use Rattle.kcl_take.specs.Loads.{AreKnown}
use Rattle.kcl_take.proofs.taking.others.Given as goal

-- The workers are the other owners of the rows from index `i` on.
abbrev pub invariant-loop-i : goal.invariant-loop-i
invariant-loop-i l = (l.i ≤ length l.fn.rows)
    × (l.workers.items ≡ others l.fn.me (drop l.i l.fn.rows))
    × AreKnown l.known l.workers.items

abbrev pub decreases-loop-i : goal.decreases-loop-i
decreases-loop-i l = l.i
