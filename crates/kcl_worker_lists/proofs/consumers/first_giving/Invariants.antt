use Rattle.std.proofs.Common.{◌≡◌, drop}
use Rattle.kcl_worker_lists.specs.Lists.{giving_in}
use Rattle.kcl_worker_lists.proofs.consumers.first_giving.Given as goal

abbrev pub invariant-loop-c : goal.invariant-loop-c
invariant-loop-c g l = giving_in (drop l.c-index l.consumers) ≡ giving_in l.consumers
