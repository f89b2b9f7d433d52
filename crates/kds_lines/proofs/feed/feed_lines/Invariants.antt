use Rattle.std.proofs.Common.{◌≡◌, ◌+◌, ◌≤◌, ◌<◌, List, ℕ, length, Option}
use Rattle.kds_lines.specs.declared.sizes.TheConstants.{OUTPUT_BYTES}
use Rattle.kds_lines.specs.LineBuffer.{Stands, FedLines, fed_count}
use Rattle.kds_lines.proofs.feed.feed_lines.Given as goal

-- All of `piece` but `rest` was fed; the fault count hasn't fallen, and little output waits.
abbrev pub invariant-loop-at : goal.invariant-loop-at
invariant-loop-at g l = record {
  feeds : (fed : List ℕ) (start : Option (List ℕ))
      → Stands (g.T.Taker.took l.fn.taker) g.T.Taker.output fed l.fn.line_buffer start (g.K.Sink.held l.fn.out)
      → FedLines (g.T.Taker.took l.taker) g.T.Taker.output fed l.piece l.rest l.line_buffer start (g.K.Sink.held l.out);
  count : fed_count l.line_buffer + length l.rest ≡ fed_count l.fn.line_buffer + length l.piece;
  later : g.K.Sink.faults l.fn.out ≤ g.K.Sink.faults l.out;
  bounded : length l.line_buffer.output < OUTPUT_BYTES;
}

-- Each round feeds at least one of the remaining bytes.
abbrev pub decreases-loop-at : goal.decreases-loop-at
decreases-loop-at g l = length l.rest
