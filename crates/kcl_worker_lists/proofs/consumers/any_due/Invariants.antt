use Rattle.std.proofs.Common.{◌≡◌, drop}
use Rattle.std.specs.List.{list_any}
use Rattle.kcl_worker_lists.specs.Lists.{is_due}
use Rattle.kcl_worker_lists.proofs.consumers.any_due.Given as goal

abbrev pub invariant-loop-c : goal.invariant-loop-c
invariant-loop-c g l = list_any is_due (drop l.c-index l.consumers) ≡ list_any is_due l.consumers
