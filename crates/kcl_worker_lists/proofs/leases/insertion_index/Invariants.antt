use Rattle.std.proofs.Common.{◌≡◌, ◌++◌, drop, take}
use Rattle.kcl_defs.specs.Workers.{with_held}
use Rattle.kcl_worker_lists.proofs.leases.insertion_index.Given as goal

abbrev pub invariant-loop-i : goal.invariant-loop-i
invariant-loop-i l = take l.i l.fn.held ++ with_held l.fn.h (drop l.i l.fn.held) ≡ with_held l.fn.h l.fn.held
