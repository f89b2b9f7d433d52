use Rattle.std.proofs.Common.{◌≡◌, ◌++◌, drop, take, true}
use Rattle.kcl_worker_lists.specs.Changes.{lost_among}
use Rattle.kcl_worker_lists.proofs.consumers.lose_all.Given as goal

abbrev pub invariant-loop-c : goal.invariant-loop-c
invariant-loop-c g l = l.c-items ≡ lost_among (λ id. true) (take l.c-index l.fn.consumers.items)
    ++ drop l.c-index l.fn.consumers.items
