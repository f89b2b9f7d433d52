use Rattle.kcl_live.proofs.Results.{err_so}
use Rattle.kcl_live.proofs.Rounds.{going_busy, going_called, going_failed, going_turned}
use Rattle.kcl_live.proofs.driver.round.Goals as goal
use Rattle.std.proofs.lemmas.Result.{on_ok_weaker}

pub returns-in-Err-clause-err : goal.returns-in-Err-clause-err
returns-in-Err-clause-err g c =
    going_failed g.P.Processor.stands_for c.args.worker.now c.call_all.new.worker c.args.pass.now c.in-Err.error
    c.call_all.ensures.made c.call_all.ensures.called c.requires.going
    (c.in-Err.ensures.left c.requires.going.past c.requires.going.driven.stood) c.in-Err.ensures.error

pub make_turn-requires-clause-busy : goal.make_turn-requires-clause-busy
make_turn-requires-clause-busy g c =
    going_busy g.P.Processor.stands_for c.call_all.new.worker c.args.pass.now
    (going_called g.P.Processor.stands_for c.args.worker.now c.call_all.new.worker c.args.pass.now
    c.call_all.ensures.made c.call_all.ensures.called c.requires.going)

pub returns-in-Ok-clause-going : goal.returns-in-Ok-clause-going
returns-in-Ok-clause-going g c =
    let earlier = going_called g.P.Processor.stands_for c.args.worker.now c.call_all.new.worker c.args.pass.now
    c.call_all.ensures.made c.call_all.ensures.called c.requires.going in
    on_ok_weaker c.make_turn.result
    (λ turned. going_turned g.P.Processor.stands_for c.call_all.new.worker c.make_turn.new.worker c.args.pass.now
    c.make_turn.new.pass c.args.now c.make_turn.ensures.run.made turned earlier) c.make_turn.ensures.ok

pub returns-in-Ok-clause-err : goal.returns-in-Ok-clause-err
returns-in-Ok-clause-err g c =
    let earlier = going_called g.P.Processor.stands_for c.args.worker.now c.call_all.new.worker c.args.pass.now
    c.call_all.ensures.made c.call_all.ensures.called c.requires.going in
    err_so c.make_turn.result _ _ (λ e cut. cut earlier.past earlier.driven) c.make_turn.ensures.err
