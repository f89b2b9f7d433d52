use Rattle.std.proofs.Common.{refl, subst}
use Rattle.std.proofs.lemmas.Result.{on_ok_weaker, on_err_weaker}
use Rattle.kcl_worker_lists.specs.Changes.{IsFirstDue}
use Rattle.kcl_worker_lists.proofs.Calls.{first_called, first_uncalled}
use Rattle.kcl_worker_lists.proofs.consumers.call_first.Goals as goal

pub returns-in-Some-clause-ok : goal.returns-in-Some-clause-ok
returns-in-Some-clause-ok g c =
    let f : IsFirstDue c.in-Some.i c.args.consumers.now.items =
    subst (λ xs. IsFirstDue c.in-Some.i xs) c.as_slice.ensures.value c.in-Some.ensures.some in
    on_ok_weaker c.call.result
    (λ h. (
      h.0,
      first_called g.P.Processor.stands_for g.P.Processor.asks h.0 c.in-Some.i c.args.consumers.now.items
          _ c.index_mut.result.now c.call.new.self f c.index_mut.ensures.value refl h.1,
    )) c.call.ensures.ok

pub returns-in-Some-clause-err : goal.returns-in-Some-clause-err
returns-in-Some-clause-err g c =
    let f : IsFirstDue c.in-Some.i c.args.consumers.now.items =
    subst (λ xs. IsFirstDue c.in-Some.i xs) c.as_slice.ensures.value c.in-Some.ensures.some in
    on_err_weaker c.call.result
    (λ h. first_uncalled g.P.Processor.stands_for g.P.Processor.asks c.in-Some.i c.args.consumers.now.items _
    c.index_mut.result.now c.call.new.self f c.index_mut.ensures.value refl h) c.call.ensures.err
