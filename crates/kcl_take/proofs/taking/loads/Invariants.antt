use Rattle.std.proofs.Common.{◌≡◌, ℕ, take}
use Rattle.kcl_defs.specs.Plans.{load_of}
use Rattle.kcl_take.specs.Loads.{load_in}
use Rattle.kcl_take.proofs.taking.loads.Given as goal

-- The loads count the rows that the loop has passed.
abbrev pub invariant-loop-r : goal.invariant-loop-r
invariant-loop-r l = (worker : ℕ) → load_in l.loads worker ≡ load_of (take l.r-index l.fn.rows) worker
