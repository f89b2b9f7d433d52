use Rattle.std.proofs.Common.{◌<◌, ◌++◌, ◌∷◌, [], length, ◌∙◌, ap, subst, sym}
use Rattle.std.specs.Prelude.{slice_set}
use Rattle.kcl_sim.specs.Keeping.{if_wanted}
use Rattle.kcl_sim.specs.Standing.{SimValue}
use Rattle.kcl_sim.proofs.Employing.{set_again}
use Rattle.kcl_sim.proofs.Running.{Asked, asked_at, err_so, idle_steps, on_ok_all, on_ok_so, turn_may, turn_steps}
use Rattle.kcl_sim.proofs.sim.Sim.step_at.Goals as goal

asked_turn : (g : _) (c : goal.After-make_turn g)
    → Asked c.args.at c.args.index c.args.self.now c.next_command.result c.next_command.new.worker
asked_turn g c =
    let items = ap (λ (v : SimValue). v.workers) c.self.view_is in
    asked_at c.args.self.now c.args.at c.args.index c.self.inside.workers.items _ _ c.index_mut.result.now
    c.call_all.new.worker c.index_mut-2.result.now c.next_command.new.worker c.next_command.result
    items (subst (λ ws. c.args.index < length ws) (sym items) c.requires.there) c.index_mut.ensures.value
    c.index_mut-2.ensures.value
    c.in_ok-call_all.ensures.called c.next_command.ensures.is c.next_command.ensures.stands
    c.next_command.ensures.unasked

pub returns-in-Some-clause-steps : goal.returns-in-Some-clause-steps
returns-in-Some-clause-steps g c =
    let items = ap (λ (v : SimValue). v.workers) c.self.view_is in
    on_ok_all c.make_turn.result c.make_turn.ensures.history c.make_turn.ensures.worker c.make_turn.ensures.output
    (λ history worker wrote.
    turn_steps g.K.Keep.wanted c.args.self.now c.make_turn.new.self c.args.at c.args.by c.args.index
    c.next_command.result
    c.in-Some.what _ _ c.next_command.new.worker
    c.args.to.now c.make_turn.new.to (asked_turn g c) c.in-Some.is
    (ap (λ (v : SimValue). v.history) c.self.view_is)
    (set_again c.self.inside.workers.items c.args.index c.call_all.new.worker c.next_command.new.worker
    ∙ ap (λ ws. slice_set ws c.args.index c.next_command.new.worker) items)
    c.requires.there history worker wrote)

pub returns-in-Some-clause-breaks : goal.returns-in-Some-clause-breaks
returns-in-Some-clause-breaks g c =
    err_so c.make_turn.result c.make_turn.ensures.breaks
    (turn_may c.args.self.now c.make_turn.new.self c.args.at c.args.by c.args.index c.next_command.result c.in-Some.what
    _
    c.next_command.new.worker (asked_turn g c) c.in-Some.is (ap (λ (v : SimValue). v.history) c.self.view_is))

pub returns-in-None-clause-steps : goal.returns-in-None-clause-steps
returns-in-None-clause-steps g c =
    let items = ap (λ (v : SimValue). v.workers) c.self.view_is in
    let a : Asked c.args.at c.args.index c.args.self.now c.next_command.result c.next_command.new.worker =
    asked_at c.args.self.now c.args.at c.args.index c.self.inside.workers.items _ _ c.index_mut.result.now
    c.call_all.new.worker c.index_mut-2.result.now c.next_command.new.worker c.next_command.result
    items (subst (λ ws. c.args.index < length ws) (sym items) c.requires.there) c.index_mut.ensures.value
    c.index_mut-2.ensures.value
    c.in_ok-call_all.ensures.called c.next_command.ensures.is c.next_command.ensures.stands
    c.next_command.ensures.unasked in
    on_ok_so c.say_word.result c.say_word.ensures.ok (λ wrote.
    idle_steps g.K.Keep.wanted c.args.self.now _ c.args.at c.args.by c.args.index c.next_command.result
    c.next_command.new.worker
    c.args.to.now c.say_word.new.to a c.in-None.is
    (ap (λ (v : SimValue).
    record v {
      workers = slice_set (slice_set v.workers c.args.index c.call_all.new.worker)
          c.args.index c.next_command.new.worker;
    }) c.self.view_is
    ∙ ap (λ ws. record c.args.self.now { workers = ws })
    (set_again c.args.self.now.workers c.args.index c.call_all.new.worker c.next_command.new.worker))
    (wrote ∙ ap (λ w. c.args.to.now ++ if_wanted g.K.Keep.wanted (w ++ 10 ∷ [])) c.as_slice.ensures))
