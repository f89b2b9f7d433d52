use Rattle.kcl_drill_drain.proofs.ReadLemmas.{read_result}
use Rattle.kcl_drill_drain.proofs.turns.read.Goals as goal

pub returns-clause-ok : goal.returns-clause-ok
returns-clause-ok g c = λ w x spot ready is l.
    read_result w c.args.at spot (c.drain_laws.ensures w.history c.args.at spot.can)
    (g.M.Machine.stands_for c.args.machine.now) (g.M.Machine.stands_for c.ask.new.machine)
    c.args.by x c.args.held.now c.ask.result
    c.held_answers.ensures.read c.held_states.ensures.read c.ask.ensures.moment ready is l c.ask.ensures.ok
