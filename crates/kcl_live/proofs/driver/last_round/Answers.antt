use Rattle.kcl_live.proofs.Results.{err_both, on_ok}
use Rattle.kcl_live.proofs.Rounds.{finishing_called, finishing_failed, finishing_turned}
use Rattle.kcl_live.proofs.driver.last_round.Goals as goal

pub returns-in-Ok-clause-finishing : goal.returns-in-Ok-clause-finishing
returns-in-Ok-clause-finishing g c = on_ok c.call_all.result _ (λ most f.
    finishing_called g.P.Processor.stands_for c.make_turn.new.worker c.call_all.new.worker c.make_turn.new.pass most
    c.call_all.ensures.made c.call_all.ensures.called
    (finishing_turned g.P.Processor.stands_for c.args.worker.now c.make_turn.new.worker c.args.pass.now
    c.make_turn.new.pass most c.args.now c.make_turn.ensures.run.made c.requires.none_due c.requires.busy
    c.in-Ok.ensures.turn.added c.in-Ok.ensures.ok f))

pub returns-in-Ok-clause-err : goal.returns-in-Ok-clause-err
returns-in-Ok-clause-err g c =
    let f = finishing_turned g.P.Processor.stands_for c.args.worker.now c.make_turn.new.worker c.args.pass.now
    c.make_turn.new.pass c.requires.finishing.0 c.args.now c.make_turn.ensures.run.made c.requires.none_due
    c.requires.busy c.in-Ok.ensures.turn.added c.in-Ok.ensures.ok c.requires.finishing.1 in
    err_both c.call_all.result _ _ _
    (λ e is left. finishing_failed g.P.Processor.stands_for c.make_turn.new.worker c.call_all.new.worker
    c.make_turn.new.pass c.requires.finishing.0 e c.call_all.ensures.made c.call_all.ensures.called f
    (left f.past f.driven.stood) is)
    c.call_all.ensures.error c.call_all.ensures.left
