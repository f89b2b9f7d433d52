use Rattle.kcl_sim.proofs.Running.{on_ok_so}
use Rattle.kcl_sim.proofs.Wanting.{said, unsaid}
use Rattle.kcl_sim.proofs.wanted.say_answered.Goals as goal

pub returns-then-wants_answers : goal.returns-then-wants_answers
returns-then-wants_answers g c =
    on_ok_so c.print_answered.result c.print_answered.ensures
    (λ wrote. said g.K.Keep.wanted _ c.args.line.now _ c.if-wants_answers.ensures wrote)

pub returns-else-wants_answers : goal.returns-else-wants_answers
returns-else-wants_answers g c = unsaid g.K.Keep.wanted _ c.args.line.now c.if-wants_answers.ensures
