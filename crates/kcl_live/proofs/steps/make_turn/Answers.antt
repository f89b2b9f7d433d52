use Rattle.kcl_live.proofs.Driven.{answer_failed, has_turned, turn_failed}
use Rattle.kcl_live.proofs.steps.make_turn.Goals as goal

pub returns-in-Ok-absorb-clause-ok : goal.returns-in-Ok-absorb-clause-ok
returns-in-Ok-absorb-clause-ok g c = λ past d.
    has_turned g.P.Processor.stands_for c.args.worker.now c.next-what.new.self c.args.pass.now c.turn.new.pass past
    c.args.now c.next-what.result c.next-what.ensures.same.made d c.next-what.ensures.next c.turn.ensures.kept.1
    c.absorb.new.self c.in-Ok.answer c.in-Ok.ensures.answered c.in-Ok-absorb.ensures.made
    c.in-Ok-absorb.ensures.absorbed

pub returns-in-Err-absorb-clause-err : goal.returns-in-Err-absorb-clause-err
returns-in-Err-absorb-clause-err g c = λ past d.
    answer_failed g.P.Processor.stands_for c.args.worker.now c.next-what.new.self c.args.pass.now c.turn.new.pass past
    c.args.now c.next-what.result c.next-what.ensures.same.made d c.next-what.ensures.next c.turn.ensures.kept.1
    c.absorb.new.self c.in-Ok.answer c.in-Ok.ensures.answered c.in-Err-absorb.ensures.kept c.next-what.ensures.waits
    c.drop_answer.result c.drop_answer.ensures

pub returns-in-Err-clause-err : goal.returns-in-Err-clause-err
returns-in-Err-clause-err g c = λ past d.
    turn_failed g.P.Processor.stands_for c.args.worker.now c.next-what.new.self c.args.pass.now c.turn.new.pass past
    c.args.now c.next-what.result c.next-what.ensures.same.made d c.next-what.ensures.next c.turn.ensures.kept.1
    c.in-Err.error c.turn.ensures.seen c.in-Err.ensures.failed c.in-Err.ensures.spent c.next-what.ensures.waits
