use Rattle.std.proofs.Common.{◌≡◌, ◌++◌, drop, map}
use Rattle.kcl_defs.specs.Plans.{take_step}
use Rattle.kcl_take.proofs.taking.steps_of.Given as goal

-- Steps so far, then the steps for the rows still to come, are all steps.
abbrev pub invariant-loop-r : goal.invariant-loop-r
invariant-loop-r l = l.steps ++ map take_step (drop l.r-index l.rows) ≡ map take_step l.rows
