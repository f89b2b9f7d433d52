use Rattle.std.proofs.Common.{rules}
use Rattle.kds_stream_logs.proofs.reading.is_end.Goals as goal

pub returns-then-is_some : goal.returns-then-is_some
returns-then-is_some c = search rules
