use Rattle.std.proofs.Common.{max}
use Rattle.kds_defs.specs.Histories.{clock, journal}
use Rattle.kcl_drill_summary.proofs.CountLemmas.{begins}
use Rattle.kcl_drill_summary.proofs.counting.count_from.Goals as goal

pub loop-now-init : goal.loop-now-init
loop-now-init g c = (
  λ h has. has,
  λ h has can is. begins (journal h) (max (clock h) c.args.at) c.args.from.stream c.args.from.shard c.args.from can is,
)
