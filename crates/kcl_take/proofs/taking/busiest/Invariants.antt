use Rattle.std.proofs.Common.{◌≡◌, ◌≤◌, drop, length}
use Rattle.kcl_defs.specs.Plans.{busiest}
use Rattle.kcl_take.specs.Loads.{load_in}
use Rattle.kcl_take.proofs.taking.busiest.Given as goal

abbrev pub invariant-loop-i : goal.invariant-loop-i
invariant-loop-i l = (l.i ≤ length l.fn.workers) × (l.best ≡ busiest (load_in l.fn.loads) (drop l.i l.fn.workers))

abbrev pub decreases-loop-i : goal.decreases-loop-i
decreases-loop-i l = l.i
