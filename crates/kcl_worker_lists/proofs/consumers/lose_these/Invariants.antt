use Rattle.std.proofs.Common.{◌≡◌, ◌++◌, drop, take}
use Rattle.kcl_worker_lists.specs.Changes.{lost_among}
use Rattle.kcl_worker_lists.specs.Planning.{is_among}
use Rattle.kcl_worker_lists.proofs.consumers.lose_these.Given as goal

abbrev pub invariant-loop-c : goal.invariant-loop-c
invariant-loop-c g l =
    l.c-items ≡ lost_among (is_among l.fn.lost) (take l.c-index l.fn.consumers.items)
    ++ drop l.c-index l.fn.consumers.items
