use Rattle.std.proofs.Common.{◌∷◌, ◌++◌, [], ◌∙◌, ap, sym}
use Rattle.std.specs.Prelude.{slice_set}
use Rattle.kcl_sim.specs.Keeping.{if_wanted}
use Rattle.kcl_sim.specs.Standing.{SimValue}
use Rattle.kcl_sim.proofs.Employing.{shown_there}
use Rattle.kcl_sim.proofs.Running.{nobody_stops, on_ok_so, stop_goes}
use Rattle.kcl_sim.proofs.Stepping.{stop_on}
use Rattle.kcl_sim.proofs.sim.Sim.stop.Goals as goal

pub returns-in_ok-say_word-in-Some-clause-goes : goal.returns-in_ok-say_word-in-Some-clause-goes
returns-in_ok-say_word-in-Some-clause-goes g c = λ ran s.
    let there = sym c.index_of.ensures ∙ c.in-Some.is in
    stop_goes g.K.Keep.wanted c.args.self.now _ ran c.args.at c.args.by c.in-Some.index c.index_mut.result.now
    c.stop.new.self c.args.to.now
    c.say_word.new.to s c.requires there
    (shown_there _ c.args.self.now c.args.by c.in-Some.index _ c.index_mut.result.now c.self.view_is there
    c.index_mut.ensures.value)
    (ap (λ (v : SimValue). record v { workers = slice_set v.workers c.in-Some.index c.stop.new.self }) c.self.view_is)
    (λ e h. stop_on c.index_mut.result.now c.stop.new.self e c.stop.ensures.unasked.made c.stop.ensures.unasked.maker
    c.stop.ensures.stands h)
    (c.in_ok-say_word-in-Some.ensures.ok
    ∙ ap (λ w. c.args.to.now ++ if_wanted g.K.Keep.wanted (w ++ 10 ∷ [])) c.as_slice.ensures)

pub returns-in-None-clause-goes : goal.returns-in-None-clause-goes
returns-in-None-clause-goes g c =
    on_ok_so c.say_word-in-None.result c.say_word-in-None.ensures.ok (λ wrote ran s.
    nobody_stops g.K.Keep.wanted c.args.self.now _ ran c.args.at c.args.by c.args.to.now c.say_word-in-None.new.to s
    c.requires c.self.view_is (sym
    c.index_of.ensures ∙ c.in-None.is)
    (wrote ∙ ap (λ w. c.args.to.now ++ if_wanted g.K.Keep.wanted (w ++ 10 ∷ [])) c.as_slice-in-None.ensures))
