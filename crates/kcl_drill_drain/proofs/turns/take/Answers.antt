use Rattle.kcl_drill_drain.proofs.Beginning.{taken}
use Rattle.kcl_drill_drain.proofs.turns.take.Goals as goal

pub returns-clause-ok : goal.returns-clause-ok
returns-clause-ok g c = λ w r spot same_k same_n seen going l.
    let f = taken w c.args.at spot (c.drain_laws.ensures w.history c.args.at spot.can)
    (g.M.Machine.stands_for c.args.machine.now) (g.M.Machine.stands_for c.ask.new.machine) c.args.by c.args.counter
    c.args.key r c.in_ok-answer.answer
    c.held_answers.ensures.take c.ask.ensures.moment same_k same_n seen going l c.in_ok-answer.ensures.ok in
    (_, c.taken_of-held.ensures f.0 f.1 r.checkpoint f.2, f.3)
