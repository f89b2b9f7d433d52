use Rattle.std.proofs.Common.{◌∙◌, sym}
use Rattle.kcl_sim.proofs.Stepping.{all_done, called_on, no_some}
use Rattle.kcl_sim.proofs.workers.call_all.Goals as goal

pub loop-worker-preserved : goal.loop-worker-preserved
loop-worker-preserved c = (
  c.in_ok-call.ensures.waiting ∙ c.loop-worker.invariant.0,
  λ e s.
      let p = c.loop-worker.invariant.1 e s in
      called_on c.loop-worker.worker c.call.new.self e p.0 c.in_ok-call.ensures.same.made
      c.in_ok-call.ensures.same.maker
      c.in_ok-call.ensures.ok p.1 p.2,
)

pub returns-clause-called : goal.returns-clause-called
returns-clause-called c = λ e s.
    let p = c.loop-worker.invariant.1 e s in
    all_done c.loop-worker.worker e p.0 (sym c.due.ensures ∙ no_some c.due.result c.loop-worker-test.ensures) p.1 p.2
