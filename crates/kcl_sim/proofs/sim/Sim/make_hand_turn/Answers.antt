use Rattle.std.proofs.Common.{rules, ◌++◌, ◌∙◌, ap}
use Rattle.std.specs.Prelude.{codes, false}
use Rattle.std.proofs.lemmas.List.{append_assoc}
use Rattle.kcl_script_fields.specs.Answers.{answer_text}
use Rattle.kcl_script_fields.specs.Commands.{command_text}
use Rattle.kcl_sim.specs.Keeping.{if_wanted}
use Rattle.kcl_sim.proofs.Wanting.{joined}
use Rattle.kcl_sim.proofs.sim.Sim.make_hand_turn.Goals as goal

pub returns-in_err-say_part-clause-breaks : goal.returns-in_err-say_part-clause-breaks
returns-in_err-say_part-clause-breaks c = search rules

pub returns-clause-answered : goal.returns-clause-answered
returns-clause-answered c = search rules

pub returns-clause-ran : goal.returns-clause-ran
returns-clause-ran c = search rules

pub returns-clause-output : goal.returns-clause-output
returns-clause-output g c =
    let w = g.K.Keep.wanted in
    let command = command_text c.args.what in
    let end = codes " = " ++ (answer_text false c.in_ok-answer.answer ++ codes "; ") in
    c.in_ok-say_part.ensures ∙ ap (λ l. l ++ if_wanted w end) c.in_ok-say_command.ensures.ok
    ∙ append_assoc c.args.text.now (if_wanted w command) (if_wanted w end)
    ∙ ap (λ l. c.args.text.now ++ l) (joined w command end)
    ∙ ap (λ a. c.args.text.now ++ if_wanted w (command ++ (codes " = " ++ (answer_text false a ++ codes "; "))))
    c.in_ok-answer.ensures.answered
