use Rattle.std.proofs.Common.{◌∷◌, ◌++◌, [], ◌∙◌, ap, refl, sym}
use Rattle.std.specs.Prelude.{false, true}
use Rattle.kcl_sim.specs.Keeping.{if_wanted}
use Rattle.kcl_sim.specs.Standing.{SimValue}
use Rattle.kcl_sim.proofs.Employing.{free_at}
use Rattle.kcl_sim.proofs.Running.{nobody_steps, on_any_err, on_ok_so, step_broke, step_done, step_goes, step_may}
use Rattle.kcl_sim.proofs.sim.Sim.step_worker.Goals as goal

pub returns-in_default-clause-goes : goal.returns-in_default-clause-goes
returns-in_default-clause-goes g c =
    on_ok_so c.say_word.result c.say_word.ensures.ok (λ wrote ran s.
    nobody_steps g.K.Keep.wanted c.args.self.now _ ran c.args.at c.args.by c.args.to.now c.say_word.new.to s
    c.requires.going c.self.view_is (sym
    c.index_of.ensures ∙ c.in_default.is)
    (wrote ∙ ap (λ w. c.args.to.now ++ if_wanted g.K.Keep.wanted (w ++ 10 ∷ [])) c.as_slice.ensures))

pub step_at-requires-clause-unasked : goal.step_at-requires-clause-unasked
step_at-requires-clause-unasked g c =
    free_at c.self.inside.workers.items c.in-Some.index
    (c.self.invariant.2 (ap (λ (v : SimValue). v.unfinished) c.self.view_is ∙ c.requires.going))

pub returns-in_err-step_at-clause-breaks : goal.returns-in_err-step_at-clause-breaks
returns-in_err-step_at-clause-breaks g c = on_any_err c.from_residual.result (λ ran s.
    step_may c.args.self.now c.step_at.new.self ran c.args.at c.args.by c.in-Some.index s c.requires.going
    (sym c.index_of.ensures ∙ c.in-Some.is) c.in_err-step_at.ensures.unfinished
    (step_broke c.args.self.now _ c.step_at.new.self c.args.at c.args.by c.in-Some.index
    (ap (λ (v : SimValue). record v { unfinished = true }) c.self.view_is) c.in_err-step_at.ensures.breaks))

pub returns-clause-goes : goal.returns-clause-goes
returns-clause-goes g c = λ ran s.
    step_goes g.K.Keep.wanted c.args.self.now _ ran c.args.at c.args.by c.in-Some.index c.args.to.now c.step_at.new.to s
    c.requires.going (sym
    c.index_of.ensures ∙ c.in-Some.is)
    (step_done g.K.Keep.wanted c.args.self.now _ c.step_at.new.self _ c.args.at c.args.by c.in-Some.index c.args.to.now
    c.step_at.new.to
    (ap (λ (v : SimValue). record v { unfinished = true }) c.self.view_is)
    (ap (λ (v : SimValue). record v { unfinished = false }) c.self-2.view_is) c.in_ok-step_at.ensures.steps) refl
