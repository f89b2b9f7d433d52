use Rattle.std.proofs.Common.{◌≡◌, drop}
use Rattle.kcl_worker_lists.specs.Lists.{due_in}
use Rattle.kcl_worker.proofs.worker.Worker.due.Given as goal

abbrev pub invariant-loop-c : goal.invariant-loop-c
invariant-loop-c g l = due_in (drop l.c-index l.c-items) ≡ due_in l.self.consumers
