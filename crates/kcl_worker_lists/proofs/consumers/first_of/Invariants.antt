use Rattle.std.proofs.Common.{◌≡◌, drop}
use Rattle.kcl_worker_lists.specs.Changes.{first_of}
use Rattle.kcl_worker_lists.proofs.consumers.first_of.Given as goal

abbrev pub invariant-loop-c : goal.invariant-loop-c
invariant-loop-c g l = first_of l.fn.id (drop l.c-index l.consumers) ≡ first_of l.fn.id l.consumers
