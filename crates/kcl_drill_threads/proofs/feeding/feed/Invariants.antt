use Rattle.std.proofs.Common.{length}
use Rattle.kcl_drill_threads.proofs.Feeds.{IsFeeding}
use Rattle.kcl_drill_threads.proofs.feeding.feed.Given as goal

abbrev pub invariant-loop-error : goal.invariant-loop-error
invariant-loop-error g l = IsFeeding l.fn.generator l.generator l.fn.feeder l.feeder

abbrev pub decreases-loop-error : goal.decreases-loop-error
decreases-loop-error g l = length l.generator
