use Rattle.kcl_sim.proofs.Wanting.{said_whole, unsaid_whole}
use Rattle.kcl_sim.proofs.wanted.say_word.Goals as goal

pub returns-then-wants_answers : goal.returns-then-wants_answers
returns-then-wants_answers g c =
    said_whole g.K.Keep.wanted _ c.args.to.now _ _ c.if-wants_answers.ensures c.print_word.ensures

pub returns-else-wants_answers : goal.returns-else-wants_answers
returns-else-wants_answers g c = unsaid_whole g.K.Keep.wanted _ _ c.args.to.now c.if-wants_answers.ensures
