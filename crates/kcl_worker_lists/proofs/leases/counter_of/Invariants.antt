use Rattle.std.proofs.Common.{◌≡◌, drop}
use Rattle.kcl_defs.specs.Workers.{counter_of}
use Rattle.kcl_worker_lists.proofs.leases.counter_of.Given as goal

abbrev pub invariant-loop-h : goal.invariant-loop-h
invariant-loop-h l = counter_of l.fn.id (drop l.h-index l.held) ≡ counter_of l.fn.id l.held
