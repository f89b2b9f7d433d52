use Rattle.std.proofs.Common.{◌≡◌, drop}
use Rattle.std.specs.List.{list_any}
use Rattle.kcl_defs.specs.Workers.{is_giving_stage}
use Rattle.kcl_worker_lists.proofs.consumers.any_giving.Given as goal

abbrev pub invariant-loop-c : goal.invariant-loop-c
invariant-loop-c g l = list_any (λ c. is_giving_stage c.stage) (drop l.c-index l.consumers)
    ≡ list_any (λ c. is_giving_stage c.stage) l.consumers
