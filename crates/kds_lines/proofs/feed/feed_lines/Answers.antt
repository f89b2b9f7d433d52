use Rattle.std.proofs.Common.{◌∷◌, [], ◌++◌, drop, refl, arith}
use Rattle.kds_lines.proofs.Pieces.{feed_parts}
use Rattle.kds_lines.proofs.Feeds.{lines_begin, lines_go, lines_stop}
use Rattle.kds_lines.proofs.feed.feed_lines.Goals as goal

pub loop-at-init : goal.loop-at-init
loop-at-init g c = record {
  feeds = λ fed start st. lines_begin (g.T.Taker.took c.args.taker.now) (g.T.Taker.took c.args.taker.now)
      (g.T.Taker.broke c.args.taker.now) g.T.Taker.refuses g.T.Taker.output fed c.args.piece.now c.args.line_buffer.now
      start _ st;
  count = refl;
  later = omega arith;
  bounded = c.requires;
}

pub returns-in-Err-clause-err : goal.returns-in-Err-clause-err
returns-in-Err-clause-err g c = λ fed start st.
    let f = c.loop-at.invariant.feeds fed start st in
    let tail = c.split_at.result.0.now in
    let after = c.split_at.result.1.now in
    let parts = feed_parts c.loop-at.rest.now tail after (drop 1 after) c.in-Some.at c.in-Some.ensures
    c.split_at.ensures.front c.split_at.ensures.back refl in
    lines_stop (g.T.Taker.took c.loop-at.taker) (g.T.Taker.took c.next_line.new.taker)
    (g.T.Taker.broke c.next_line.new.taker) g.T.Taker.refuses g.T.Taker.output fed c.args.piece.now
    c.loop-at.rest.now (tail ++ 10 ∷ []) (drop 1 after) _ _ start _ _ _
    c.in-Err.ensures.kinds f parts.0 (c.in-Err.ensures.err (fed ++ f.front) start f.stands parts.1)

pub loop-at-preserved : goal.loop-at-preserved
loop-at-preserved g c = record {
  feeds = λ fed start st.
      let f = c.loop-at.invariant.feeds fed start st in
      let tail = c.split_at.result.0.now in
      let after = c.split_at.result.1.now in
      let next = c.split_at-in-Some.result.1.now in
      let parts = feed_parts c.loop-at.rest.now tail after next c.in-Some.at c.in-Some.ensures c.split_at.ensures.front
      c.split_at.ensures.back c.split_at-in-Some.ensures.back in
      lines_go (g.T.Taker.took c.loop-at.taker) (g.T.Taker.took c.next_line.new.taker)
      (g.T.Taker.broke c.next_line.new.taker) g.T.Taker.refuses g.T.Taker.output fed c.args.piece.now
      c.loop-at.rest.now (tail ++ 10 ∷ []) next _ _ start _ _ f parts.0
      (c.in_default-next_line.ensures.ok (fed ++ f.front) start f.stands parts.1);
  count = omega (
    arith,
    c.in_default-next_line.ensures.count,
    c.loop-at.invariant.count,
    c.in-Some.ensures.within,
    c.split_at.ensures.front_len,
    c.split_at.ensures.back_len,
    c.split_at-in-Some.ensures.back_len,
  );
  later = omega (arith, c.loop-at.invariant.later, c.in_default-next_line.ensures.later);
  bounded = c.in_default-next_line.ensures.bounded;
}
