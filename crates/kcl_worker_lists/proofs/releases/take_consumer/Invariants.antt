use Rattle.std.proofs.Common.{◌≡◌, ◌++◌, drop, take}
use Rattle.kcl_worker_lists.specs.Changes.{first_of, without_consumer}
use Rattle.kcl_worker_lists.proofs.releases.take_consumer.Given as goal

-- No consumer before `i` belongs to `id`, and none was taken out yet.
abbrev pub invariant-loop-i : goal.invariant-loop-i
invariant-loop-i g l =
    (take l.i l.consumers.items ++ without_consumer l.fn.id (drop l.i l.consumers.items)
    ≡ without_consumer l.fn.id l.fn.consumers.items)
    × (first_of l.fn.id (drop l.i l.consumers.items) ≡ first_of l.fn.id l.fn.consumers.items)
    × (l.consumers ≡ l.fn.consumers)
