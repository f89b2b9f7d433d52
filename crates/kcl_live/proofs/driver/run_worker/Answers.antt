use Rattle.kcl_live.proofs.Results.{err_to}
use Rattle.kcl_live.proofs.Served.{cut_served, run_served}
use Rattle.kcl_live.proofs.driver.run_worker.Goals as goal
use Rattle.std.proofs.lemmas.Result.{on_ok_weaker}

pub returns-clause-served : goal.returns-clause-served
returns-clause-served g c =
    on_ok_weaker c.drive-result.result
    (run_served g.P.Processor.stands_for c.drive-result.new.worker c.served.ensures c.drive-result.new.pass)
    c.drive-result.ensures.ran.ok

pub returns-clause-served_so_far : goal.returns-clause-served_so_far
returns-clause-served_so_far g c =
    err_to c.drive-result.result _ _
    (cut_served g.P.Processor.stands_for c.drive-result.new.worker c.served.ensures c.drive-result.new.pass)
    c.drive-result.ensures.ran.err
