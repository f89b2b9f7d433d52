use Rattle.std.proofs.Common.{◌≡◌, drop}
use Rattle.kcl_worker_lists.specs.Lists.{past_in}
use Rattle.kcl_worker_lists.proofs.consumers.first_past.Given as goal

abbrev pub invariant-loop-c : goal.invariant-loop-c
invariant-loop-c g l = past_in l.fn.last (drop l.c-index l.consumers) ≡ past_in l.fn.last l.consumers
