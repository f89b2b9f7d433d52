use Rattle.std.proofs.Common.{◌≡◌, ◌++◌, drop, take}
use Rattle.kcl_defs.specs.Workers.{renewed}
use Rattle.kcl_worker_lists.proofs.leases.renew.Given as goal

abbrev pub invariant-loop-h : goal.invariant-loop-h
invariant-loop-h l =
    l.h-items ≡ renewed l.fn.id l.fn.counter l.fn.now (take l.h-index l.fn.held.items) ++ drop l.h-index l.fn.held.items
