use Rattle.kds_lines.proofs.Feeds.{told_end, told_halt}
use Rattle.kds_lines.proofs.read.read_lines.Goals as goal

pub returns-in-Ok-false-clause-told : goal.returns-in-Ok-false-clause-told
returns-in-Ok-false-clause-told g c =
    let all = g.S.Source.left c.args.input.now in
    let start = g.K.Sink.held c.args.out.now in
    let r = c.next_piece.new.line_buffer in
    rw c.last.ensures
    (told_end (g.T.Taker.took c.next_piece.new.taker) (g.T.Taker.broke c.next_piece.new.taker) g.T.Taker.refuses
    g.T.Taker.output all (g.S.Source.left c.next_piece.new.input) start (g.K.Sink.held c.next_piece.new.out) r
    (c.in-Ok-false.ensures.goes_on all start c.loop-line_buffer.invariant.0)
    (c.in-Ok-false.ensures.ends c.in-Ok-false.field-0-test) r.short r.within)

pub returns-in-Err-clause-told : goal.returns-in-Err-clause-told
returns-in-Err-clause-told g c =
    let all = g.S.Source.left c.args.input.now in
    let start = g.K.Sink.held c.args.out.now in
    told_halt (g.T.Taker.took c.next_piece.new.taker) (g.T.Taker.broke c.next_piece.new.taker) g.T.Taker.refuses
    g.T.Taker.output c.in-Err.outcome all (g.S.Source.left c.next_piece.new.input) start
    (g.K.Sink.held c.next_piece.new.out)
    c.in-Err.ensures.kinds (c.in-Err.ensures.err all start c.loop-line_buffer.invariant.0)
