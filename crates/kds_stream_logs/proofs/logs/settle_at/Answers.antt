use Rattle.std.proofs.Common.{map, sym, ap, ◌∙◌}
use Rattle.kds_defs.specs.Streams.{floor_of}
use Rattle.kds_log.specs.Log.{log_of}
use Rattle.kds_stream_logs.proofs.LogLemmas.{settled_at_zero, settled_beyond, settled_set, as_many_logs}
use Rattle.kds_stream_logs.specs.Logs.{settled_at}
use Rattle.std.proofs.Common.{arith, Some}
use Rattle.kds_stream_logs.proofs.logs.settle_at.Goals as goal

pub returns-in_default : goal.returns-in_default
returns-in_default c = settled_at_zero c.args.i (map log_of c.args.logs.now)
    ∙ ap (λ cut. settled_at (floor_of cut) c.args.i (map log_of c.args.logs.now)) (sym c.in_default.is)

pub returns-then-i-logs : goal.returns-then-i-logs
returns-then-i-logs c =
    settled_set c.args.logs.now c.args.i (floor_of (Some c.in-Some.cut)) c.index-logs-i.result c.trim.new.self
    c.if-i-logs.true c.trim.ensures.value
    ∙ ap (λ cut. settled_at (floor_of cut) c.args.i (map log_of c.args.logs.now)) (sym c.in-Some.is)

pub returns-else-i-logs : goal.returns-else-i-logs
returns-else-i-logs c =
    settled_beyond (floor_of c.args.cut.now) c.args.i (map log_of c.args.logs.now)
    (omega (arith, c.if-i-logs.false, as_many_logs c.args.logs.now))
