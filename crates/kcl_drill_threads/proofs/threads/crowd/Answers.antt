use Rattle.kcl_drill_threads.proofs.Feeds.{crowd_err, has_fed, has_fed_so_far, none_fed}
use Rattle.kcl_drill_threads.proofs.Passing.{kept_all}
use Rattle.kcl_drill_threads.proofs.threads.crowd.Goals as goal

pub returns-in-Err-clause-fed_so_far : goal.returns-in-Err-clause-fed_so_far
returns-in-Err-clause-fed_so_far g c =
    none_fed c.args.number c.args.records c.begin.new.root c.begin.new.feeder c.in-Err.ensures.failed
    c.begin.ensures.none

pub returns-clause-kept : goal.returns-clause-kept
returns-clause-kept g c = (
  c.begin.ensures.kept.0,
  kept_all c.args.feeder.now c.begin.new.feeder c.run_both.new.feeder c.begin.ensures.kept.1
      c.run_both.ensures.feeds.kept,
)

pub returns-clause-fed : goal.returns-clause-fed
returns-clause-fed g c =
    has_fed c.args.number c.args.records c.generate-generator.result c.begin.new.generator c.begin.new.root
    c.begin.new.feeder c.run_both.new.feeder c.run_both.result
    c.generate-generator.ensures c.in-Ok.ensures.asked c.in-Ok.ensures.left c.in-Ok.ensures.learned
    c.run_both.ensures.feeds

pub returns-clause-fed_so_far : goal.returns-clause-fed_so_far
returns-clause-fed_so_far g c =
    has_fed_so_far c.args.number c.args.records c.generate-generator.result c.begin.new.generator c.begin.new.root
    c.begin.new.feeder c.run_both.new.feeder c.run_both.result
    c.generate-generator.ensures c.in-Ok.ensures.asked c.in-Ok.ensures.left c.in-Ok.ensures.learned
    c.run_both.ensures.feeds

pub returns-clause-err : goal.returns-clause-err
returns-clause-err g c =
    crowd_err c.args.number c.args.records c.generate-generator.result c.begin.new.generator c.args.root.now
    c.begin.new.root c.begin.new.feeder c.run_both.new.feeder c.run_both.result
    c.generate-generator.ensures c.in-Ok.ensures.asked c.run_both.ensures.feeds
