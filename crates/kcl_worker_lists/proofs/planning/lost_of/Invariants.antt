use Rattle.std.proofs.Common.{◌≡◌, ◌++◌, drop}
use Rattle.kcl_worker_lists.specs.Planning.{lost_of}
use Rattle.kcl_worker_lists.proofs.planning.lost_of.Given as goal

-- Lost leases so far, then the lost among the leases still to come, are all lost leases.
abbrev pub invariant-loop-h : goal.invariant-loop-h
invariant-loop-h l = l.lost.items ++ lost_of l.fn.rows (drop l.h-index l.held) ≡ lost_of l.fn.rows l.held
