use Rattle.kcl_live.proofs.HandoffLemmas.{goes_called, goes_uncalled}
use Rattle.kcl_live.proofs.handoffs.call_one.Goals as goal

pub returns-in-Ok-clause-goes : goal.returns-in-Ok-clause-goes
returns-in-Ok-clause-goes g c = λ moment q.
    goes_called g.P.Processor.stands_for moment c.args.hand.now c.call.new.self q c.call.ensures.held
    c.call.ensures.made
    g.P.Processor.asks c.in-Ok.ensures.ok c.in-Ok.ensures.added

pub returns-in-Err-clause-goes : goal.returns-in-Err-clause-goes
returns-in-Err-clause-goes g c = λ moment q.
    goes_uncalled g.P.Processor.stands_for moment c.args.hand.now c.call.new.self q c.call.ensures.held
    c.call.ensures.made
    c.in-Err.ensures.err c.in-Err.ensures.kept

pub returns-in-None-clause-goes : goal.returns-in-None-clause-goes
returns-in-None-clause-goes g c = λ moment q start p is_before events actor along. (events, along)
