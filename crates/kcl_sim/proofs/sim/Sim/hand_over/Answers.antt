use Rattle.std.proofs.Common.{refl, sym, ap, subst, ◌∙◌, ◌++◌, ◌∷◌, []}
use Rattle.std.specs.Prelude.{IsSome}
use Rattle.kcl_sim.specs.Keeping.{if_wanted}
use Rattle.kcl_sim.specs.Output.{left_text}
use Rattle.kcl_sim.proofs.HandRuns.{broke_between, broke_round, way_begins, way_ends, way_goes}
use Rattle.kcl_sim.proofs.Running.{on_any_err, on_ok_so}
use Rattle.kcl_sim.proofs.Stepping.{no_some}
use Rattle.kcl_sim.proofs.sim.Sim.hand_over.Goals as goal

pub loop-alloc-init : goal.loop-alloc-init
loop-alloc-init g c =
    way_begins g.K.Keep.wanted c.args.at c.args.by c.args.self.now c.args.self.now c.args.hand c.call_hand.new.hand
    c.new-text.result refl
    c.new-text.ensures c.requires.few
    c.in_ok-call_hand.ensures.few c.in_ok-call_hand.ensures.none_due c.in_ok-call_hand.ensures.called

pub hand_round-requires-clause-none_due : goal.hand_round-requires-clause-none_due
hand_round-requires-clause-none_due g c = c.loop-alloc.invariant.none_due

pub loop-alloc-smaller : goal.loop-alloc-smaller
loop-alloc-smaller g c = c.in_ok-hand_round.ensures.fewer

pub loop-alloc-preserved : goal.loop-alloc-preserved
loop-alloc-preserved g c =
    way_goes g.K.Keep.wanted c.args.at c.args.by c.args.self.now c.loop-alloc.self c.hand_round.new.self c.args.hand
    c.loop-alloc.hand c.hand_round.new.hand
    c.loop-alloc.text c.hand_round.new.text c.loop-alloc.invariant
    c.in_ok-hand_round.ensures.made c.in_ok-hand_round.ensures.unfinished c.in_ok-hand_round.ensures.workers
    c.in_ok-hand_round.ensures.cleared_at
    c.in_ok-hand_round.ensures.fewer
    c.in_ok-hand_round.ensures.none_due

pub returns-in_err-hand_round-clause-unfinished : goal.returns-in_err-hand_round-clause-unfinished
returns-in_err-hand_round-clause-unfinished g c =
    c.in_err-hand_round.ensures.unfinished ∙ c.loop-alloc.invariant.unfinished

pub returns-in_err-hand_round-clause-workers : goal.returns-in_err-hand_round-clause-workers
returns-in_err-hand_round-clause-workers g c = c.in_err-hand_round.ensures.workers ∙ c.loop-alloc.invariant.workers

pub returns-in_err-hand_round-clause-cleared_at : goal.returns-in_err-hand_round-clause-cleared_at
returns-in_err-hand_round-clause-cleared_at g c =
    c.in_err-hand_round.ensures.cleared_at ∙ c.loop-alloc.invariant.cleared_at

pub returns-in_err-hand_round-clause-breaks : goal.returns-in_err-hand_round-clause-breaks
returns-in_err-hand_round-clause-breaks g c =
    on_any_err c.from_residual-in_err-hand_round.result
    (broke_round g.K.Keep.wanted c.args.at c.args.by c.args.self.now c.loop-alloc.self c.hand_round.new.self c.args.hand
    c.loop-alloc.hand c.loop-alloc.text
    c.loop-alloc.invariant
    (sym c.over.ensures ∙ no_some c.over.result (sym c.loop-alloc-test.ensures)) c.in_err-hand_round.ensures.breaks)

pub returns-in_err-say_left-clause-unfinished : goal.returns-in_err-say_left-clause-unfinished
returns-in_err-say_left-clause-unfinished g c = c.loop-alloc.invariant.unfinished

pub returns-in_err-say_left-clause-workers : goal.returns-in_err-say_left-clause-workers
returns-in_err-say_left-clause-workers g c = c.loop-alloc.invariant.workers

pub returns-in_err-say_left-clause-cleared_at : goal.returns-in_err-say_left-clause-cleared_at
returns-in_err-say_left-clause-cleared_at g c = c.loop-alloc.invariant.cleared_at

pub returns-in_err-say_left-clause-breaks : goal.returns-in_err-say_left-clause-breaks
returns-in_err-say_left-clause-breaks g c =
    on_any_err c.from_residual-in_err-say_left.result
    (broke_between g.K.Keep.wanted c.args.at c.args.by c.args.self.now c.loop-alloc.self c.loop-alloc.self c.args.hand
    c.loop-alloc.hand c.loop-alloc.text
    c.loop-alloc.invariant refl)

pub returns-clause-unfinished : goal.returns-clause-unfinished
returns-clause-unfinished g c = c.loop-alloc.invariant.unfinished

pub returns-clause-workers : goal.returns-clause-workers
returns-clause-workers g c = c.loop-alloc.invariant.workers

pub returns-clause-cleared_at : goal.returns-clause-cleared_at
returns-clause-cleared_at g c = c.loop-alloc.invariant.cleared_at

pub returns-clause-ran : goal.returns-clause-ran
returns-clause-ran g c =
    on_ok_so c.extend.result c.extend.ensures.ok (λ wrote.
    way_ends g.K.Keep.wanted c.args.at c.args.by c.args.self.now c.loop-alloc.self c.loop-alloc.self c.args.hand
    c.loop-alloc.hand c.loop-alloc.text
    c.say_left.new.line
    c.args.to.now c.extend.new.self c.loop-alloc.invariant
    (subst IsSome c.over.ensures c.loop-alloc-test.ensures)
    (c.in_ok-say_left.ensures
    ∙ ap (λ o. c.loop-alloc.text ++ if_wanted g.K.Keep.wanted (left_text o ++ 10 ∷ [])) c.over-2.ensures)
    (wrote ∙ ap (λ z. c.args.to.now ++ z) c.as_slice.ensures) refl)

pub returns-clause-breaks : goal.returns-clause-breaks
returns-clause-breaks g c =
    on_any_err c.extend.result
    (broke_between g.K.Keep.wanted c.args.at c.args.by c.args.self.now c.loop-alloc.self c.loop-alloc.self c.args.hand
    c.loop-alloc.hand c.loop-alloc.text
    c.loop-alloc.invariant refl)
