use Rattle.std.proofs.Common.{◌≡◌, ◌++◌, drop, take}
use Rattle.kcl_worker_lists.specs.Changes.{with_consumer}
use Rattle.kcl_worker_lists.proofs.consumers.insertion_index.Given as goal

abbrev pub invariant-loop-i : goal.invariant-loop-i
invariant-loop-i g l =
    take l.i l.fn.consumers ++ with_consumer l.fn.c (drop l.i l.fn.consumers) ≡ with_consumer l.fn.c l.fn.consumers
