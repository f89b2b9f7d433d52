use Rattle.std.proofs.Common.{subst}
use Rattle.kcl_drill_threads.specs.Asking.{Asks}
use Rattle.kcl_drill_threads.proofs.Feeds.{feeding_first, feeding_more, feeds_some}
use Rattle.kcl_drill_threads.proofs.feeding.feed.Goals as goal

pub loop-error-init : goal.loop-error-init
loop-error-init g c = feeding_first c.args.generator.now c.args.feeder.now c.requires.new

pub loop-error-preserved : goal.loop-error-preserved
loop-error-preserved g c =
    let coming = c.loop-error.generator in
    let left = c.ask_next.new.generator in
    let after = c.ask_next.new.pass in
    feeding_more c.args.generator.now coming left c.args.feeder.now c.loop-error.feeder after c.loop-error.invariant
    c.ask_next.ensures.kept
    (subst (λ more. Asks more coming left c.loop-error.feeder after) c.in-Ok-true.field-0-test
    c.in-Ok-true.ensures.asked)

pub returns-in-Err : goal.returns-in-Err
returns-in-Err g c =
    feeds_some c.args.generator.now c.loop-error.generator c.args.feeder.now c.loop-error.feeder c.ask_next.new.pass
    c.in-Err.error c.loop-error.invariant c.ask_next.ensures.kept c.in-Err.ensures.failed c.in-Err.ensures.err
