use Rattle.std.proofs.Common.{rules, refl, arith}
use Rattle.kcl_live.proofs.HandoffLemmas.{goes_on}
use Rattle.kcl_live.proofs.handoffs.advance.Goals as goal

pub returns-in-Err-clause-steps : goal.returns-in-Err-clause-steps
returns-in-Err-clause-steps g c = record {
  kept = search rules;
  held = search rules;
  made = search rules;
  seen = search rules;
  goes = c.call_one.ensures.goes c.args.at c.args.pass.now;
  still = search rules;
}

pub returns-in-Some-clause-steps : goal.returns-in-Some-clause-steps
returns-in-Some-clause-steps g c = record {
  kept = search rules;
  held = search rules;
  made = search rules;
  seen = search rules;
  goes = c.call_one.ensures.goes c.args.at c.args.pass.now;
  still = search rules;
}

pub returns-in-Ok-answer_one-clause-few : goal.returns-in-Ok-answer_one-clause-few
returns-in-Ok-answer_one-clause-few g c = omega (arith, c.in-Ok.ensures.few, c.in-Ok-answer_one.ensures.few)

pub returns-in-Ok-answer_one-clause-steps : goal.returns-in-Ok-answer_one-clause-steps
returns-in-Ok-answer_one-clause-steps g c = record {
  kept = search rules;
  held = search rules;
  made = search rules;
  seen = search rules;
  goes = goes_on g.P.Processor.stands_for c.args.at c.args.hand.now c.call_one.new.hand c.answer_one.new.hand
      c.args.pass.now c.args.pass.now c.answer_one.new.pass refl (c.call_one.ensures.goes c.args.at c.args.pass.now)
      c.answer_one.ensures.steps.goes;
  still = search rules;
}

pub returns-in-Err-answer_one-clause-steps : goal.returns-in-Err-answer_one-clause-steps
returns-in-Err-answer_one-clause-steps g c = record {
  kept = search rules;
  held = search rules;
  made = search rules;
  seen = search rules;
  goes = goes_on g.P.Processor.stands_for c.args.at c.args.hand.now c.call_one.new.hand c.answer_one.new.hand
      c.args.pass.now c.args.pass.now c.answer_one.new.pass refl (c.call_one.ensures.goes c.args.at c.args.pass.now)
      c.answer_one.ensures.steps.goes;
  still = search rules;
}
