use Rattle.std.proofs.Common.{◌++◌}
use Rattle.std.proofs.KnownBytes.{Consumes-trans}
use Rattle.kds_lines.proofs.Feeds.{halted_read, halted_written, fed_lost, stands_written}
use Rattle.kds_lines.proofs.read.next_piece.Goals as goal

pub returns-in-Err-clause-err : goal.returns-in-Err-clause-err
returns-in-Err-clause-err g c = λ all start r.
    halted_read (g.T.Taker.took c.args.taker.now) (g.T.Taker.broke c.args.taker.now) g.T.Taker.refuses g.T.Taker.output
    all _ _ start _ _ r c.in-Err.ensures.bytes

pub returns-in-Err-flush-clause-err : goal.returns-in-Err-flush-clause-err
returns-in-Err-flush-clause-err g c = λ all start r.
    let piece = c.split_at.result.0.now in
    let bytes = rw (← c.split_at.ensures.front) at c.in-Ok.ensures.bytes.0 in
    record {
      fed = r.fed ++ piece;
      consumed = Consumes-trans all _ _ r.fed piece r.consumed bytes;
      halted = rw c.lost_after.ensures
          (fed_lost (g.T.Taker.took c.args.taker.now) (g.T.Taker.took c.feed-fed.new.taker)
          (g.T.Taker.broke c.feed-fed.new.taker) g.T.Taker.refuses g.T.Taker.output c.feed-fed.result piece
          c.args.line_buffer.now c.feed-fed.new.line_buffer _ _ _
          c.feed-fed.ensures.ok c.feed-fed.ensures.err r.fed start r.stands (c.in-Err-flush.ensures.err start));
    }

pub returns-in-Ok-fed-clause-goes_on : goal.returns-in-Ok-fed-clause-goes_on
returns-in-Ok-fed-clause-goes_on g c = λ all start r.
    let piece = c.split_at.result.0.now in
    let bytes = rw (← c.split_at.ensures.front) at c.in-Ok.ensures.bytes.0 in
    record {
      fed = r.fed ++ piece;
      consumed = Consumes-trans all _ _ r.fed piece r.consumed bytes;
      stands = stands_written (g.T.Taker.took c.args.taker.now) (g.T.Taker.took c.feed-fed.new.taker)
          (g.T.Taker.broke c.feed-fed.new.taker) g.T.Taker.refuses g.T.Taker.output (r.fed ++ piece)
          c.feed-fed.new.line_buffer c.flush.new.self start _ _
          c.flush.ensures.held c.flush.ensures.count c.flush.ensures.used (c.in-Ok-fed.ensures.ok r.fed start r.stands)
          (rw c.flush.ensures.output (c.in-Ok-flush.ensures.ok start));
      flushed = c.flush.ensures.output;
    }

pub returns-in-Err-fed-clause-err : goal.returns-in-Err-fed-clause-err
returns-in-Err-fed-clause-err g c = λ all start r.
    let piece = c.split_at.result.0.now in
    let bytes = rw (← c.split_at.ensures.front) at c.in-Ok.ensures.bytes.0 in
    record {
      fed = r.fed ++ piece;
      consumed = Consumes-trans all _ _ r.fed piece r.consumed bytes;
      halted = halted_written (g.T.Taker.took c.args.taker.now) (g.T.Taker.took c.feed-fed.new.taker)
          (g.T.Taker.broke c.feed-fed.new.taker) g.T.Taker.refuses g.T.Taker.output c.in-Err-fed.outcome
          (r.fed ++ piece) c.feed-fed.new.line_buffer.output start _ _
          (c.in-Err-fed.ensures.err r.fed start r.stands) (c.in-Ok-flush.ensures.ok start);
    }
