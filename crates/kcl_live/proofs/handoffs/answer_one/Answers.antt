use Rattle.std.proofs.Common.{refl, rules}
use Rattle.kcl_live.proofs.HandoffLemmas.{goes_answered, goes_later}
use Rattle.kcl_live.proofs.handoffs.answer_one.Goals as goal

pub returns-in-Ok-clause-steps : goal.returns-in-Ok-clause-steps
returns-in-Ok-clause-steps g c = record {
  kept = search rules;
  held = search rules;
  made = search rules;
  seen = search rules;
  goes = goes_answered g.P.Processor.stands_for c.args.at c.args.hand.now c.absorb.new.self c.args.pass.now
      c.turn.new.pass
      c.next-what.result c.in-Ok.answer
      c.absorb.ensures.held c.absorb.ensures.made c.absorb.ensures.processor c.next-what.ensures.next
      c.absorb.ensures.adds c.turn.ensures.kept.1 c.in-Ok.ensures.answered;
  still = search rules;
}

pub returns-in-Err-clause-steps : goal.returns-in-Err-clause-steps
returns-in-Err-clause-steps g c = record {
  kept = search rules;
  held = search rules;
  made = search rules;
  seen = search rules;
  goes = goes_later g.P.Processor.stands_for c.args.at c.args.hand.now c.args.hand.now c.args.pass.now c.turn.new.pass
      refl
      c.turn.ensures.kept.1 c.in-Err.ensures.failed c.turn.ensures.seen;
  still = search rules;
}
