use Rattle.std.proofs.Common.{◌≡◌, ◌<◌, ◌∷◌, ◌++◌, [], length, ◌∙◌, ap, subst, sym}
use Rattle.std.specs.Prelude.{codes, false, slice_get, slice_set}
use Rattle.kcl_script_fields.specs.Answers.{answer_text}
use Rattle.kcl_script_fields.specs.Commands.{command_text}
use Rattle.kcl_sim.specs.Standing.{Employs, SimValue}
use Rattle.kcl_sim.specs.Workers.{answered}
use Rattle.kcl_sim.proofs.Employing.{got_there}
use Rattle.kcl_sim.specs.Keeping.{if_wanted}
use Rattle.kcl_sim.proofs.Running.{on_any, on_ok_so}
use Rattle.kcl_sim.proofs.Wanting.{joined}
use Rattle.kcl_sim.proofs.sim.Sim.make_turn.Goals as goal

pub returns-clause-worker : goal.returns-clause-worker
returns-clause-worker g c =
    let items : c.self.inside.workers.items ≡ c.args.self.now.workers =
    ap (λ (v : SimValue). v.workers) (c.self.view_is ∙ c.in_ok-answer.ensures.ran) in
    let lt : c.args.index < length c.self.inside.workers.items =
    subst (λ ws. c.args.index < length ws) (sym items) c.requires.there in
    on_any c.extend.result (record {
      was = c.index_mut.result.now;
      stood = ap (λ ws. slice_get ws c.args.index) (sym items)
          ∙ got_there c.self.inside.workers.items c.args.index _ c.index_mut.result.now lt c.index_mut.ensures.value;
      is = c.absorb.new.worker;
      stands = ap (λ ws. slice_set ws c.args.index c.absorb.new.worker) items;
      related = (
        c.in_ok-absorb.ensures.unasked,
        λ e h. subst (λ a. Employs c.absorb.new.worker (answered c.args.at a e)) c.in_ok-answer.ensures.answered
            (c.in_ok-absorb.ensures.stands e h),
      );
    })

pub returns-clause-output : goal.returns-clause-output
returns-clause-output g c =
    on_ok_so c.extend.result c.extend.ensures.ok (λ wrote.
    let w = g.K.Keep.wanted in
    let end = codes " = " ++ (answer_text false c.in_ok-answer.answer ++ 10 ∷ []) in
    wrote ∙ ap (λ l. c.args.to.now ++ l) (c.as_slice.ensures ∙ c.in_ok-say_answered.ensures
    ∙ ap (λ l. l ++ if_wanted w end) (c.in_ok-say_command.ensures.ok
    ∙ ap (λ n. n ++ if_wanted w (command_text c.args.what)) c.new-text.ensures)
    ∙ joined w (command_text c.args.what) end
    ∙ ap (λ a. if_wanted w (command_text c.args.what ++ (codes " = " ++ (answer_text false a ++ 10 ∷ []))))
    c.in_ok-answer.ensures.answered))
