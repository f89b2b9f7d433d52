use Rattle.kds_lines.proofs.Feeds.{flush_ok, flush_err}
use Rattle.kds_lines.proofs.line_buffer.LineBuffer.flush.Goals as goal

pub returns-clause-ok : goal.returns-clause-ok
returns-clause-ok g c =
    flush_ok c.write_all-written.result _ _ c.as_slice.result.now c.args.self.now.output c.as_slice.ensures
    c.write_all-written.ensures.ok

pub returns-clause-err : goal.returns-clause-err
returns-clause-err g c =
    flush_err c.write_all-written.result _ _ c.as_slice.result.now c.args.self.now.output c.as_slice.ensures
    c.write_all-written.ensures.err
