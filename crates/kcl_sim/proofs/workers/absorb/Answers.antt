use Rattle.kcl_sim.proofs.Stepping.{answer_on}
use Rattle.kcl_sim.proofs.workers.absorb.Goals as goal

pub returns-in-Ok-clause-stands : goal.returns-in-Ok-clause-stands
returns-in-Ok-clause-stands c = λ e s.
    answer_on c.args.worker.now c.absorb.new.self e c.args.now c.args.answer c.in-Ok.ensures.made c.in-Ok.ensures.asks
    c.in-Ok.ensures.absorbed s
