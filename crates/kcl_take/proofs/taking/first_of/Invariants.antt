use Rattle.std.proofs.Common.{◌≡◌, drop}
use Rattle.kcl_defs.specs.Plans.{first_step}
use Rattle.kcl_take.proofs.taking.first_of.Given as goal

abbrev pub invariant-loop-r : goal.invariant-loop-r
invariant-loop-r l = first_step l.fn.worker (drop l.r-index l.rows) ≡ first_step l.fn.worker l.rows
