use Rattle.std.proofs.Common.{◌∙◌, rules}
use Rattle.kds_turn.proofs.Turns.{continues_all}
use Rattle.kcl_live.proofs.HandoffLemmas.{goes_on}
use Rattle.kcl_live.proofs.handoffs.carry.Goals as goal

pub loop-left-preserved : goal.loop-left-preserved
loop-left-preserved g c =
    let inv = c.loop-left.invariant in
    let kept = c.advance.ensures.steps.kept in
    record {
      kept = (kept.0 ∙ inv.kept.0, kept.1 ∙ inv.kept.1, kept.2 ∙ inv.kept.2);
      held = c.advance.ensures.steps.held ∙ inv.held;
      made = c.advance.ensures.steps.made ∙ inv.made;
      seen = continues_all c.advance.new.pass.seen c.loop-left.pass.seen c.args.pass.now.seen
          c.advance.ensures.steps.seen
          inv.seen;
      goes = goes_on g.P.Processor.stands_for c.args.at c.args.hand.now c.loop-left.hand c.advance.new.hand
          c.args.pass.now c.loop-left.pass c.advance.new.pass inv.kept.1 inv.goes c.advance.ensures.steps.goes;
    }

pub returns-in-Ok-Some-clause-steps : goal.returns-in-Ok-Some-clause-steps
returns-in-Ok-Some-clause-steps g c = record {
  kept = search rules;
  held = search rules;
  made = search rules;
  seen =
      continues_all c.advance.new.pass.seen c.loop-left.pass.seen c.args.pass.now.seen c.advance.ensures.steps.seen
      c.loop-left.invariant.seen;
  goes = goes_on g.P.Processor.stands_for c.args.at c.args.hand.now c.loop-left.hand c.advance.new.hand
      c.args.pass.now c.loop-left.pass c.advance.new.pass c.loop-left.invariant.kept.1 c.loop-left.invariant.goes
      c.advance.ensures.steps.goes;
  still = search rules;
}

pub returns-in-Err-clause-steps : goal.returns-in-Err-clause-steps
returns-in-Err-clause-steps g c = record {
  kept = search rules;
  held = search rules;
  made = search rules;
  seen =
      continues_all c.advance.new.pass.seen c.loop-left.pass.seen c.args.pass.now.seen c.advance.ensures.steps.seen
      c.loop-left.invariant.seen;
  goes = goes_on g.P.Processor.stands_for c.args.at c.args.hand.now c.loop-left.hand c.advance.new.hand
      c.args.pass.now c.loop-left.pass c.advance.new.pass c.loop-left.invariant.kept.1 c.loop-left.invariant.goes
      c.advance.ensures.steps.goes;
  still = search rules;
}
