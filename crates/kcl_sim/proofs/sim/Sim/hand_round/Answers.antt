use Rattle.std.proofs.Common.{arith}
use Rattle.kcl_sim.proofs.HandRuns.{round_made}
use Rattle.kcl_sim.proofs.Running.{on_any, on_ok_so}
use Rattle.kcl_sim.proofs.sim.Sim.hand_round.Goals as goal

pub returns-clause-fewer : goal.returns-clause-fewer
returns-clause-fewer g c =
    on_any c.call_hand.result
    (omega (arith, c.call_hand.ensures.few, c.absorb.ensures.few c.requires.none_due c.requires.going))

pub returns-clause-made : goal.returns-clause-made
returns-clause-made g c =
    on_ok_so c.call_hand.result c.call_hand.ensures.called
    (round_made g.K.Keep.wanted c.args.at c.args.by c.args.self.now c.make_hand_turn.new.self c.args.hand.now
    c.absorb.new.self c.call_hand.new.hand c.next-what.result
    c.in_ok-answer.answer c.args.text.now c.make_hand_turn.new.text c.next-what.ensures.next c.in_ok-answer.ensures.ran
    c.in_ok-answer.ensures.answered
    c.absorb.ensures.held c.absorb.ensures.made c.absorb.ensures.adds
    c.in_ok-answer.ensures.output)
