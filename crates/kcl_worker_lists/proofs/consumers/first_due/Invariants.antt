use Rattle.std.proofs.Common.{◌≡◌, drop, false, take}
use Rattle.std.specs.List.{AllByRecursion}
use Rattle.kcl_worker_lists.specs.Lists.{due_in, is_due}
use Rattle.kcl_worker_lists.proofs.consumers.first_due.Given as goal

-- No call before `i` is due, so the first due call is the first from there on.
abbrev pub invariant-loop-i : goal.invariant-loop-i
invariant-loop-i g l =
    AllByRecursion (λ c. is_due c ≡ false) (take l.i l.consumers) × (due_in (drop l.i l.consumers) ≡ due_in l.consumers)
