use Rattle.kcl_drill_drain.proofs.Beginning.{opened}
use Rattle.kcl_drill_drain.proofs.turns.open.Goals as goal

pub returns-clause-ok : goal.returns-clause-ok
returns-clause-ok g c = λ w r spot seen going l.
    opened w c.args.at spot (c.drain_laws.ensures w.history c.args.at spot.can)
    (g.M.Machine.stands_for c.args.machine.now) (g.M.Machine.stands_for c.ask.new.machine)
    c.args.by r c.args.held.now c.in_ok-_answer._answer
    c.held_answers.ensures.opening c.held_states.ensures.begun c.ask.ensures.moment going l c.in_ok-_answer.ensures.ok
