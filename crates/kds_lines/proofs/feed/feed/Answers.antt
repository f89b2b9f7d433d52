use Rattle.kds_lines.proofs.Feeds.{piece_held, piece_stops, own_is_feed, own_is_no_write}
use Rattle.kds_lines.proofs.feed.feed.Goals as goal

pub returns-in-Ok-clause-ok : goal.returns-in-Ok-clause-ok
returns-in-Ok-clause-ok g c = λ fed start st.
    piece_held (g.T.Taker.took c.feed_lines.new.taker) (g.T.Taker.took c.feed_lines.new.taker)
    (g.T.Taker.broke c.feed_lines.new.taker) g.T.Taker.refuses g.T.Taker.output fed c.args.piece.now _ _ _ start _
    (c.in_ok-rest.ensures.ok fed start st) c.in_ok-rest.ensures.rest c.hold.ensures.output c.hold.ensures.lines
    c.in-Ok.ensures.ok

pub returns-in-Err-clause-err : goal.returns-in-Err-clause-err
returns-in-Err-clause-err g c = λ fed start st.
    piece_stops (g.T.Taker.took c.feed_lines.new.taker) (g.T.Taker.took c.feed_lines.new.taker)
    (g.T.Taker.broke c.feed_lines.new.taker) g.T.Taker.refuses g.T.Taker.output fed c.args.piece.now _ _ _ start _ _
    (c.in_ok-rest.ensures.ok fed start st) c.in_ok-rest.ensures.rest c.hold.ensures.output c.in-Err.ensures.err

pub returns-in-Err-clause-write : goal.returns-in-Err-clause-write
returns-in-Err-clause-write g c = λ e. absurd (own_is_no_write c.in-Err.outcome c.in-Err.ensures.kinds (cc))

pub returns-in-Err-clause-kinds : goal.returns-in-Err-clause-kinds
returns-in-Err-clause-kinds g c = own_is_feed c.in-Err.outcome c.in-Err.ensures.kinds
