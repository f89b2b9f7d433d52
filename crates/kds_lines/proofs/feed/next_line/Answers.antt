use Rattle.kds_lines.proofs.Feeds.{stands_lost}
use Rattle.kds_lines.proofs.feed.next_line.Goals as goal

pub returns-in-Err-clause-err : goal.returns-in-Err-clause-err
returns-in-Err-clause-err g c = λ fed start st n.
    stands_lost (g.T.Taker.took c.args.taker.now) (g.T.Taker.took c.end_line.new.taker)
    (g.T.Taker.broke c.end_line.new.taker) g.T.Taker.refuses g.T.Taker.output _ _ c.end_line.new.line_buffer start _ _
    c.in-Err.ensures.lost (c.in_ok-end_line.ensures.ok _ fed start st n) (c.in-Err.ensures.err start)
