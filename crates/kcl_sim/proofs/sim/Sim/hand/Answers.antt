use Rattle.std.proofs.Common.{◌∷◌, ◌++◌, [], ◌∙◌, ap, sym, true, false}
use Rattle.std.specs.Prelude.{slice_set}
use Rattle.kcl_sim.specs.Keeping.{if_wanted}
use Rattle.kcl_sim.specs.Standing.{SimValue}
use Rattle.kcl_sim.proofs.Employing.{shown_there}
use Rattle.kcl_sim.proofs.HandLines.{hand_goes, hand_may, nobody_hands, nothing_hands, released_so}
use Rattle.kcl_sim.proofs.Running.{on_any_err, on_ok_so}
use Rattle.kcl_sim.proofs.sim.Sim.hand.Goals as goal

pub returns-in_default-clause-goes : goal.returns-in_default-clause-goes
returns-in_default-clause-goes g c =
    on_ok_so c.say_word.result c.say_word.ensures.ok (λ wrote ran s.
    nobody_hands g.K.Keep.wanted c.args.self.now _ ran c.args.at c.args.by c.args.key c.args.to.now c.say_word.new.to s
    c.requires.going c.self.view_is
    (sym c.index_of.ensures ∙ c.in_default.is)
    (wrote ∙ ap (λ w. c.args.to.now ++ if_wanted g.K.Keep.wanted (w ++ 10 ∷ [])) c.as_slice.ensures))

pub returns-in_default-released-clause-goes : goal.returns-in_default-released-clause-goes
returns-in_default-released-clause-goes g c =
    on_ok_so c.say_word-in_default-released.result c.say_word-in_default-released.ensures.ok (λ wrote ran s.
    let there = sym c.index_of.ensures ∙ c.in-Some.is in
    nothing_hands g.K.Keep.wanted c.args.self.now _ ran c.args.at c.args.by c.in-Some.index c.args.key
    c.index_mut.result.now
    c.release-released.new.self c.args.to.now
    c.say_word-in_default-released.new.to s c.requires.going there
    (shown_there _ c.args.self.now c.args.by c.in-Some.index _ c.index_mut.result.now c.self.view_is there
    c.index_mut.ensures.value)
    (ap (λ (v : SimValue). record v { workers = slice_set v.workers c.in-Some.index c.release-released.new.self })
    c.self.view_is)
    c.in_default-released.ensures.kept c.in_default-released.ensures.none
    (wrote ∙ ap (λ w. c.args.to.now ++ if_wanted g.K.Keep.wanted (w ++ 10 ∷ []))
    c.as_slice-in_default-released.ensures))

pub returns-in_err-hand_over-clause-breaks : goal.returns-in_err-hand_over-clause-breaks
returns-in_err-hand_over-clause-breaks g c = on_any_err c.from_residual.result (λ ran s.
    let there = sym c.index_of.ensures ∙ c.in-Some.is in
    hand_may c.args.self.now _ c.hand_over.new.self ran c.args.at c.args.by c.in-Some.index c.args.key
    c.index_mut.result.now c.release-released.new.self
    c.new.result s c.requires.going there
    (shown_there _ c.args.self.now c.args.by c.in-Some.index _ c.index_mut.result.now c.self.view_is there
    c.index_mut.ensures.value)
    (released_so c.index_mut.result.now c.release-released.new.self c.args.key _ _ c.new.result
    c.in-Some-released.ensures.some
    c.in-Some-released.ensures.unasked.made c.in-Some-released.ensures.unasked.maker
    c.new.ensures.held c.new.ensures.made c.new.ensures.stands)
    (ap (λ (v : SimValue). record v {
      workers = slice_set v.workers c.in-Some.index c.release-released.new.self;
      unfinished = true;
    }) c.self.view_is)
    c.in_err-hand_over.ensures.breaks c.in_err-hand_over.ensures.unfinished)

pub returns-clause-goes : goal.returns-clause-goes
returns-clause-goes g c = λ ran s.
    let there = sym c.index_of.ensures ∙ c.in-Some.is in
    hand_goes g.K.Keep.wanted c.args.self.now _ c.hand_over.new.self _ ran c.args.at c.args.by c.in-Some.index
    c.args.key c.index_mut.result.now
    c.release-released.new.self
    c.new.result c.args.to.now c.hand_over.new.to s c.requires.going there
    (shown_there _ c.args.self.now c.args.by c.in-Some.index _ c.index_mut.result.now c.self.view_is there
    c.index_mut.ensures.value)
    (released_so c.index_mut.result.now c.release-released.new.self c.args.key _ _ c.new.result
    c.in-Some-released.ensures.some
    c.in-Some-released.ensures.unasked.made c.in-Some-released.ensures.unasked.maker
    c.new.ensures.held c.new.ensures.made c.new.ensures.stands)
    (ap (λ (v : SimValue). record v {
      workers = slice_set v.workers c.in-Some.index c.release-released.new.self;
      unfinished = true;
    }) c.self.view_is)
    c.in_ok-hand_over.ensures.ran c.in_ok-hand_over.ensures.workers
    (ap (λ (v : SimValue). record v { unfinished = false }) c.self-2.view_is)
