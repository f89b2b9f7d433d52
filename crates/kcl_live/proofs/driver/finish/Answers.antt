use Rattle.std.proofs.Common.{◌+◌, ◌*◌, ◌<◌, ◌^◌, length, refl, sym, ap, ◌∙◌, arith, rules}
use Rattle.kds_turn.proofs.Turns.{continues_same, continues_all}
use Rattle.kcl_live.proofs.Moments.{length_added, moment_left, moments_added, most_may, next_at}
use Rattle.kcl_live.proofs.Rounds.{finishing_called, finishing_failed, finishing_left}
use Rattle.kcl_live.proofs.driver.finish.Goals as goal

pub returns-in-Err-clause-ran : goal.returns-in-Err-clause-ran
returns-in-Err-clause-ran g c = record {
  moments = search rules;
  most = search rules;
  idle = search rules;
  ok = search rules;
  err = finishing_failed g.P.Processor.stands_for c.args.worker.now c.call_all.new.worker c.args.pass.now
      (3 * c.args.turns)
      c.in-Err.error c.call_all.ensures.made c.call_all.ensures.called c.requires.finishing
      (c.in-Err.ensures.left c.requires.finishing.past c.requires.finishing.driven.stood) c.in-Err.ensures.error;
}

pub loop-at-init : goal.loop-at-init
loop-at-init g c = record {
  kept = (refl, refl, refl);
  made = c.call_all.ensures.made;
  seen = continues_same c.args.pass.now.seen;
  free = c.call_all.ensures.unasked;
  none_due = c.in-Ok.ensures.none_due;
  finishing = finishing_called g.P.Processor.stands_for c.args.worker.now c.call_all.new.worker c.args.pass.now
      (3 * c.args.turns) c.call_all.ensures.made c.call_all.ensures.called c.requires.finishing;
  moments = c.requires.so_far.0;
  at = ap (λ n. n * c.args.tick) (sym c.requires.so_far.1);
  least = omega (arith, c.requires.so_far.1);
}

pub overflow_add-at : goal.overflow_add-at
overflow_add-at g c =
    let inv = c.loop-at.invariant in
    let more = finishing_left g.P.Processor.stands_for c.loop-at.worker c.loop-at.pass (3 * c.args.turns)
    inv.finishing inv.none_due (sym c.loop-at-test.ensures) in
    let low : c.loop-at.at + c.args.tick < 2 ^ 62 =
    moment_left (length c.loop-at.pass.own) (3 * c.args.turns) c.args.tick c.loop-at.at inv.at more
    c.requires.moments in
    omega arith

pub moment-requires : goal.moment-requires
moment-requires g c =
    let inv = c.loop-at.invariant in
    let more = finishing_left g.P.Processor.stands_for c.loop-at.worker c.loop-at.pass (3 * c.args.turns)
    inv.finishing inv.none_due (sym c.loop-at-test.ensures) in
    moment_left (length c.loop-at.pass.own) (3 * c.args.turns) c.args.tick c.loop-at.at inv.at more c.requires.moments

pub loop-at-smaller : goal.loop-at-smaller
loop-at-smaller g c =
    let inv = c.loop-at.invariant in
    let more = finishing_left g.P.Processor.stands_for c.loop-at.worker c.loop-at.pass (3 * c.args.turns)
    inv.finishing inv.none_due (sym c.loop-at-test.ensures) in
    let one = length_added c.moment.result c.loop-at.pass.own c.last_round.new.pass.own
    c.in_ok-last_round.ensures.turn.added in
    omega arith

pub loop-at-preserved : goal.loop-at-preserved
loop-at-preserved g c =
    let inv = c.loop-at.invariant in
    let kept = c.last_round.ensures.run.kept in
    let added = c.in_ok-last_round.ensures.turn.added in
    let n = length c.loop-at.pass.own in
    let one = length_added c.moment.result c.loop-at.pass.own c.last_round.new.pass.own added in
    let next = next_at n c.args.tick c.loop-at.at inv.at in
    record {
      kept = (kept.0 ∙ inv.kept.0, kept.1 ∙ inv.kept.1, kept.2 ∙ inv.kept.2);
      made = c.last_round.ensures.run.made ∙ inv.made;
      seen = continues_all c.last_round.new.pass.seen c.loop-at.pass.seen c.args.pass.now.seen
          c.last_round.ensures.run.seen
          inv.seen;
      free = c.in_ok-last_round.ensures.turn.free;
      none_due = c.in_ok-last_round.ensures.none_due;
      finishing = c.in_ok-last_round.ensures.finishing (3 * c.args.turns) inv.finishing;
      moments = moments_added c.args.tick c.moment.result (c.loop-at.at + c.args.tick) n c.loop-at.pass.own
          c.last_round.new.pass.own added c.moment.ensures refl next inv.moments;
      at = next ∙ ap (λ m. m * c.args.tick) (sym one);
      least = omega (arith, inv.least, one);
    }

pub returns-in_err-last_round-clause-run : goal.returns-in_err-last_round-clause-run
returns-in_err-last_round-clause-run g c = record {
  kept = search rules;
  made = search rules;
  seen = continues_all c.last_round.new.pass.seen c.loop-at.pass.seen c.args.pass.now.seen c.last_round.ensures.run.seen
      c.loop-at.invariant.seen;
}

pub returns-in_err-last_round-clause-ran : goal.returns-in_err-last_round-clause-ran
returns-in_err-last_round-clause-ran g c = record {
  moments = search rules;
  most = let inv = c.loop-at.invariant in
      let more = finishing_left g.P.Processor.stands_for c.loop-at.worker c.loop-at.pass (3 * c.args.turns)
      inv.finishing inv.none_due (sym c.loop-at-test.ensures) in
      most_may c.moment.result (3 * c.args.turns) c.loop-at.pass.own c.last_round.new.pass.own
      c.in_err-last_round.ensures.turn.added_or_not more;
  idle = search rules;
  ok = search rules;
  err = search rules;
}
