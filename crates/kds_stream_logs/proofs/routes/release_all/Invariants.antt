use Rattle.std.proofs.Common.{◌≡◌, map}
use Rattle.kds_log.specs.Log.{log_of}
use Rattle.kds_stream_logs.proofs.routes.release_all.Given as goal

-- The logs keep their records.
abbrev pub invariant-loop-place : goal.invariant-loop-place
invariant-loop-place l = map log_of l.logs ≡ map log_of l.initial.logs
