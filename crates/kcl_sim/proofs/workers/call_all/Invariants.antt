use Rattle.std.proofs.Common.{◌≡◌, None}
use Rattle.kcl_worker_lists.specs.Lists.{due_count}
use Rattle.kcl_sim.specs.Standing.{Employs}
use Rattle.kcl_sim.specs.Workers.{Employed, all_called}
use Rattle.kcl_sim.proofs.workers.call_all.Given as goal

-- No command waits, and the worker's trace with all due calls made is the same as before the loop.
abbrev pub invariant-loop-worker : goal.invariant-loop-worker
invariant-loop-worker l =
    (l.worker.waiting ≡ None)
    × ((e : Employed) → Employs l.fn.worker e → (d : Employed) × Employs l.worker d × (all_called d ≡ all_called e))

abbrev pub decreases-loop-worker : goal.decreases-loop-worker
decreases-loop-worker l = due_count l.worker.consumers
