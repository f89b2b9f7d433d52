use Rattle.std.proofs.Common.{◌∙◌, ◌∷◌, sym}
use Rattle.kcl_worker_lists.specs.Lists.{due_in}
use Rattle.kcl_live.specs.Records.{with_calls}
use Rattle.kcl_live.proofs.Ending.{due_again, is_some_of}
use Rattle.kcl_live.proofs.steps.call_all.Goals as goal

pub loop-due-preserved : goal.loop-due-preserved
loop-due-preserved g c =
    let inv = c.loop-due.invariant in
    record {
      made = c.in-Ok.ensures.same.made ∙ inv.made;
      free = c.in-Ok.ensures.waiting ∙ inv.free;
      called = λ past s.
          let r = inv.called past s in
          let a = c.in-Ok.ensures.ok (with_calls r.0 past) r.1 in
          (a.0 ∷ r.0, a.2);
    }

pub returns-in-Err-clause-left : goal.returns-in-Err-clause-left
returns-in-Err-clause-left g c = λ past s.
    let inv = c.loop-due.invariant in
    let r = inv.called past s in
    due_again g.P.Processor.stands_for c.loop-due.worker c.call-called.new.self (with_calls r.0 past)
    c.in-Err.ensures.same.made r.1 (c.in-Err.ensures.err (with_calls r.0 past) r.1)
    (is_some_of (due_in c.loop-due.worker.consumers) c.due.result _ (sym c.due.ensures) c.in-Some.is)
