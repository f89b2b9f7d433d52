use Rattle.kcl_live.proofs.HandoffLemmas.{handed_off, was_cut}
use Rattle.kcl_live.proofs.handoffs.hand_over.Goals as goal

pub returns-in-Ok-clause-ok : goal.returns-in-Ok-clause-ok
returns-in-Ok-clause-ok g c = λ past st.
    handed_off g.P.Processor.stands_for c.args.at c.args.key c.args.worker.now c.release.new.self
    c.release.ensures.unasked.made
    c.args.pass.now c.carry.new.pass c.in-Some.held c.in-Some.consumer c.new-hand.result c.carry.new.hand
    c.new-hand.ensures.held c.new-hand.ensures.made c.new-hand.ensures.processor c.new-hand.ensures.stands
    c.carry.ensures.steps.held c.carry.ensures.steps.made c.carry.ensures.steps.goes c.in-Some.ensures.some
    c.in-Some.ensures.consumer
    c.service.ensures.served c.handed.ensures c.in-Ok.left c.into_processor.result c.in-Ok.ensures.ended
    c.into_processor.ensures past st

pub returns-in-Err-clause-err : goal.returns-in-Err-clause-err
returns-in-Err-clause-err g c = λ past st.
    was_cut g.P.Processor.stands_for c.args.at c.args.key c.args.worker.now c.release.new.self
    c.release.ensures.unasked.made
    c.args.pass.now c.carry.new.pass c.in-Some.held c.in-Some.consumer c.new-hand.result c.carry.new.hand
    c.new-hand.ensures.held c.new-hand.ensures.made c.new-hand.ensures.processor c.new-hand.ensures.stands
    c.carry.ensures.steps.held c.carry.ensures.steps.made c.carry.ensures.steps.goes c.in-Some.ensures.some
    c.in-Some.ensures.consumer
    c.service.ensures.served c.handed.ensures c.in-Err.error c.in-Err.ensures.steps.still past st
