use Rattle.kcl_drill_drain.proofs.ReadLemmas.{gave}
use Rattle.kcl_drill_drain.proofs.turns.give.Goals as goal

pub returns-clause-ok : goal.returns-clause-ok
returns-clause-ok g c = λ w x r waits same l.
    gave w c.args.at (g.M.Machine.stands_for c.args.machine.now) (g.M.Machine.stands_for c.ask.new.machine)
    c.args.by c.args.held.now.tenure x r c.in_ok-_answer._answer
    c.held_answers.ensures.give c.held_states.ensures.given c.ask.ensures.moment waits same l c.in_ok-_answer.ensures.ok
