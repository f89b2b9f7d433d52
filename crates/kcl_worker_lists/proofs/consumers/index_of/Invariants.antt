use Rattle.std.proofs.Common.{◌≡◌, ◌++◌, drop, take}
use Rattle.std.specs.Prelude.{Result}
use Rattle.kds_defs.specs.declared.reply.Refusal.{Refusal}
use Rattle.kds_defs.specs.declared.reply.Reply.{Reply}
use Rattle.kcl_worker_lists.specs.Changes.{answered_among}
use Rattle.kcl_worker_lists.proofs.consumers.index_of.Given as goal

-- No consumer before `i` belongs to `id`, so an answer to it leaves them unchanged.
abbrev pub invariant-loop-i : goal.invariant-loop-i
invariant-loop-i g l =
    (answer : Result Reply Refusal) → take l.i l.consumers ++ answered_among l.fn.id answer (drop l.i l.consumers)
    ≡ answered_among l.fn.id answer l.consumers
