use Rattle.std.proofs.Common.{◌-◌, ◌≤◌}
use Rattle.kds_defs.specs.declared.limits.TheConstants.{INPUT_BYTES}
use Rattle.kds_lines.specs.LineBuffer.{Running, fed_count}
use Rattle.kds_lines.proofs.read.read_lines.Given as goal

-- The reading runs, and the fault counts of the source and the sink haven't fallen.
abbrev pub invariant-loop-line_buffer : goal.invariant-loop-line_buffer
invariant-loop-line_buffer g l =
    Running (g.T.Taker.took l.taker) g.T.Taker.output (g.S.Source.left l.fn.input) (g.S.Source.left l.input)
    l.line_buffer
    (g.K.Sink.held l.fn.out) (g.K.Sink.held l.out)
    × (g.S.Source.faults l.fn.input ≤ g.S.Source.faults l.input)
    × (g.K.Sink.faults l.fn.out ≤ g.K.Sink.faults l.out)

-- Each round feeds at least one byte of at most INPUT_BYTES.
abbrev pub decreases-loop-line_buffer : goal.decreases-loop-line_buffer
decreases-loop-line_buffer g l = INPUT_BYTES - fed_count l.line_buffer
