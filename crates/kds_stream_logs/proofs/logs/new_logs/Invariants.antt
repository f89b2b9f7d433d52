use Rattle.std.proofs.Common.{◌≡◌, map}
use Rattle.std.specs.Prelude.{replicate}
use Rattle.kds_log.specs.Log.{log_of}
use Rattle.kds_stream_logs.specs.Logs.{empty_log}
use Rattle.kds_stream_logs.proofs.logs.new_logs.Given as goal

-- Each round has added one empty log.
abbrev pub invariant-loop-i : goal.invariant-loop-i
invariant-loop-i l = map log_of l.logs.items ≡ replicate l._i empty_log
