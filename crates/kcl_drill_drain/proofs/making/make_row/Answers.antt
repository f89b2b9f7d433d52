use Rattle.kcl_drill_drain.proofs.Makings.{makes}
use Rattle.kcl_drill_drain.proofs.making.make_row.Goals as goal

pub returns-in_ok-_answer-clause-ok : goal.returns-in_ok-_answer-clause-ok
returns-in_ok-_answer-clause-ok g c = λ w spot same seen l.
    makes w c.args.at spot (c.drain_laws.ensures w.history c.args.at spot.can)
    (g.M.Machine.stands_for c.args.machine.now) (g.M.Machine.stands_for c.ask.new.machine) c.args.by c.args.key
    c.in_ok-_answer._answer
    c.ask.ensures.moment same l c.in_ok-_answer.ensures.ok
