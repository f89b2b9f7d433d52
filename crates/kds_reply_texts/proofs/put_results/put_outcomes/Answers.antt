use Rattle.std.proofs.Common.{arith}
use Rattle.kds_reply_texts.specs.Bodies.{outcome_data}
use Rattle.kds_reply_texts.proofs.Fronts.{front_thrice, front_twice}
use Rattle.kds_reply_texts.proofs.RecordTexts.{next_item}
use Rattle.kds_reply_texts.proofs.put_results.put_outcomes.Goals as goal

pub loop-outcome-preserved : goal.loop-outcome-preserved
loop-outcome-preserved c =
    let l = c.loop-outcome in
    record {
      text = next_item outcome_data c.args.outcomes.now l.outcome-index c.outcome-item.result l.later _ _ _ _
          c.loop-outcome-test.true c.outcome-item.is
          c.in_ok-put_comma.ensures.ok c.in_ok-put_outcome.ensures.ok l.invariant.text;
      front = front_thrice _ _ _ _ l.out.items c.put_comma.new.out.items _ (omega arith) (omega arith) (omega arith)
          l.invariant.front c.put_comma.ensures.front c.put_outcome.ensures.front;
    }

pub returns-in_err-put_comma-clause-front : goal.returns-in_err-put_comma-clause-front
returns-in_err-put_comma-clause-front c =
    let l = c.loop-outcome in
    front_twice _ _ _ l.out.items _ (omega arith) (omega arith) l.invariant.front c.put_comma.ensures.front

pub returns-in_err-put_outcome-clause-front : goal.returns-in_err-put_outcome-clause-front
returns-in_err-put_outcome-clause-front c =
    let l = c.loop-outcome in
    front_thrice _ _ _ _ l.out.items c.put_comma.new.out.items _ (omega arith) (omega arith) (omega arith)
    l.invariant.front c.put_comma.ensures.front c.put_outcome.ensures.front

pub returns-in_err-push_piece-2-clause-front : goal.returns-in_err-push_piece-2-clause-front
returns-in_err-push_piece-2-clause-front c =
    let l = c.loop-outcome in
    front_twice _ _ _ l.out.items _ (omega arith) (omega arith) l.invariant.front c.push_piece-2.ensures.front
