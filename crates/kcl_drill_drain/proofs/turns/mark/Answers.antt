use Rattle.kcl_drill_drain.proofs.ReadLemmas.{marked}
use Rattle.kcl_drill_drain.proofs.turns.mark.Goals as goal

pub returns-clause-ok : goal.returns-clause-ok
returns-clause-ok g c = λ w x spot may few same same_n l.
    let f = marked w c.args.at spot (c.drain_laws.ensures w.history c.args.at spot.can)
    (g.M.Machine.stands_for c.args.machine.now) (g.M.Machine.stands_for c.ask.new.machine)
    c.args.by c.args.held.now.tenure c.args.held.now.counter c.args.to x c.in_ok-answer.answer
    c.held_answers.ensures.mark c.held_states.ensures.marked c.ask.ensures.moment may few same same_n l
    c.in_ok-answer.ensures.ok in
    (c.counter_of-counter.ensures _ f.0, f.1)
