use Rattle.std.proofs.Common.{◌≡◌, ◌+◌, ◌*◌, length, refl, sym, ap, ◌∙◌, arith, rules}
use Rattle.kds_turn.proofs.Turns.{continues_same, continues_all}
use Rattle.kcl_live.proofs.Moments.{length_added, moments_added, none_moments}
use Rattle.kcl_live.proofs.Rounds.{going_new, going_stopped}
use Rattle.kcl_live.proofs.driver.drive.Goals as goal

pub loop-k-init : goal.loop-k-init
loop-k-init g c = record {
  kept = (refl, refl, refl);
  made = refl;
  seen = continues_same c.args.pass.now.seen;
  free = c.requires.new.0.shows.waiting;
  going = going_new g.P.Processor.stands_for c.args.worker.now c.args.pass.now c.requires.new.0 c.requires.new.1;
  moments = none_moments c.args.tick c.args.pass.now.own c.requires.new.1;
  count = ap length c.requires.new.1;
}

pub returns-in_err-round-clause-run : goal.returns-in_err-round-clause-run
returns-in_err-round-clause-run g c = record {
  kept = search rules;
  made = search rules;
  seen = continues_all c.round.new.pass.seen c.loop-k.pass.seen c.args.pass.now.seen c.round.ensures.run.seen
      c.loop-k.invariant.seen;
}

pub loop-k-preserved : goal.loop-k-preserved
loop-k-preserved g c =
    let inv = c.loop-k.invariant in
    let kept = c.round.ensures.run.kept in
    let added = c.in_ok-round.ensures.turn.added in
    let n = length c.loop-k.pass.own in
    let one = length_added c.moment.result c.loop-k.pass.own c.round.new.pass.own added in
    record {
      kept = (kept.0 ∙ inv.kept.0, kept.1 ∙ inv.kept.1, kept.2 ∙ inv.kept.2);
      made = c.round.ensures.run.made ∙ inv.made;
      seen = continues_all c.round.new.pass.seen c.loop-k.pass.seen c.args.pass.now.seen c.round.ensures.run.seen
          inv.seen;
      free = c.in_ok-round.ensures.turn.free;
      going = c.in_ok-round.ensures.going;
      moments = moments_added c.args.tick c.moment.result ((n + 1) * c.args.tick) n c.loop-k.pass.own
          c.round.new.pass.own added (c.moment.ensures ∙ ap (λ m. (m + 1) * c.args.tick) (sym inv.count))
          refl refl inv.moments;
      count = omega (arith, one, inv.count);
    }

pub finish-requires-clause-finishing : goal.finish-requires-clause-finishing
finish-requires-clause-finishing g c =
    let inv = c.loop-k.invariant in
    let count : length c.loop-k.pass.own ≡ c.args.turns =
    omega (arith, inv.count, c.loop-k-test.false, c.loop-k.auto.k-end) in
    going_stopped g.P.Processor.stands_for c.loop-k.worker c.stop.new.self c.loop-k.pass c.args.turns
    c.stop.ensures.unasked.made c.stop.ensures.stands count inv.going

pub returns-clause-run : goal.returns-clause-run
returns-clause-run g c = record {
  kept = search rules;
  made = search rules;
  seen = continues_all c.finish.new.pass.seen c.loop-k.pass.seen c.args.pass.now.seen c.finish.ensures.run.seen
      c.loop-k.invariant.seen;
}
