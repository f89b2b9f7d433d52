use Rattle.std.proofs.Common.{◌∙◌, sym, refl}
use Rattle.kds_lines.proofs.Feeds.{line_taken, stands_over, stands_stops, stands_breaks}
use Rattle.kds_lines.proofs.feed.end_line.Goals as goal

pub returns-then-is_too_long-clause-err : goal.returns-then-is_too_long-clause-err
returns-then-is_too_long-clause-err g c = λ now fed start st n.
    stands_over (g.T.Taker.took c.args.taker.now) (g.T.Taker.took c.args.taker.now) (g.T.Taker.broke c.args.taker.now)
    g.T.Taker.refuses g.T.Taker.output fed c.args.tail.now c.joined_length-len.result c.args.line_buffer.now start now
    c.joined_length-len.ensures st n (sym c.is_too_long.ensures ∙ c.if-is_too_long.true)

pub returns-in-Ok-true-clause-ok : goal.returns-in-Ok-true-clause-ok
returns-in-Ok-true-clause-ok g c = λ now fed start st n.
    line_taken (g.T.Taker.took c.args.taker.now) (g.T.Taker.took c.take_joined.new.taker)
    (g.T.Taker.broke c.take_joined.new.taker) g.T.Taker.refuses g.T.Taker.output fed c.args.tail.now
    c.joined_length-len.result c.args.line_buffer.now _ start now
    c.joined_length-len.ensures st n (sym c.is_too_long.ensures ∙ c.if-is_too_long.false)
    (c.in-Ok-true.ensures.goes c.in-Ok-true.field-0-test) c.clear.ensures refl refl

pub returns-in-Ok-false-clause-err : goal.returns-in-Ok-false-clause-err
returns-in-Ok-false-clause-err g c = λ now fed start st n.
    stands_stops (g.T.Taker.took c.args.taker.now) (g.T.Taker.took c.take_joined.new.taker)
    (g.T.Taker.broke c.take_joined.new.taker) g.T.Taker.refuses g.T.Taker.output fed c.args.tail.now _
    c.joined_length-len.result c.args.line_buffer.now start now
    c.joined_length-len.ensures st n (sym c.is_too_long.ensures ∙ c.if-is_too_long.false)
    (c.in-Ok-false.ensures.silent c.in-Ok-false.field-0-test)
    (c.in-Ok-false.ensures.stops c.in-Ok-false.field-0-test)

pub returns-in-Err-clause-err : goal.returns-in-Err-clause-err
returns-in-Err-clause-err g c = λ now fed start st n.
    stands_breaks (g.T.Taker.took c.args.taker.now) (g.T.Taker.took c.take_joined.new.taker)
    (g.T.Taker.broke c.take_joined.new.taker) g.T.Taker.refuses g.T.Taker.output fed c.args.tail.now _
    c.joined_length-len.result c.args.line_buffer.now start now
    c.joined_length-len.ensures st n (sym c.is_too_long.ensures ∙ c.if-is_too_long.false) c.in-Err.ensures.same
    c.in-Err.ensures.breaks
