use Rattle.std.proofs.Common.{◌≡◌, List, None}
use Rattle.kcl_defs.specs.declared.consumer.Ask.{Ask}
use Rattle.kcl_defs.specs.Workers.{WorkerPast}
use Rattle.kcl_worker_lists.specs.Lists.{due_count}
use Rattle.kcl_worker.specs.Standing.{StandsFor}
use Rattle.kcl_live.specs.Records.{with_calls}
use Rattle.kcl_live.proofs.steps.call_all.Given as goal

-- Since before the loop the worker only had processor calls, and no command waits.
abbrev pub invariant-loop-due : goal.invariant-loop-due
invariant-loop-due g l = record {
  made : l.worker.made ≡ l.fn.worker.made;
  free : l.worker.waiting ≡ None;
  called : (past : WorkerPast) → StandsFor g.P.Processor.stands_for l.fn.worker past → (asked : List Ask)
      × StandsFor g.P.Processor.stands_for l.worker (with_calls asked past);
}

abbrev pub decreases-loop-due : goal.decreases-loop-due
decreases-loop-due g l = due_count l.worker.consumers
