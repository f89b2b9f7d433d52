use Rattle.kds_cli_runs.proofs.Answering.{Laws}
use Rattle.kds_cli_runs.proofs.Wanting.{wanting}
use Rattle.kds_cli_runs.proofs.laws.memory_may_run_out.Goals as goal

pub returns : goal.returns
returns c = λ task bytes left moments held.
    let laws : Laws = record {
      lawful = c.lawful.ensures.first;
      part = c.lawful.ensures.part;
      safe = c.safety.ensures;
      served = c.served.ensures.first;
      handed = c.schedules.ensures.handed;
    } in
    wanting laws task bytes left moments held (λ port. ⊥)
