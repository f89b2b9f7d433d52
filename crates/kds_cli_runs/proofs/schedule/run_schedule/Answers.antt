use Rattle.std.proofs.Common.{refl}
use Rattle.kcl_sim.specs.Output.{fresh, outputs}
use Rattle.kds_cli_runs.proofs.Answering.{outputs_grow, tells_all, ran_all, replays}
use Rattle.kds_cli_runs.proofs.schedule.run_schedule.Goals as goal

pub read_lines-outcome-requires : goal.read_lines-outcome-requires
read_lines-outcome-requires g c = record { are_lines = refl; made = c.keeping-sim.ensures }

pub returns-clause-told : goal.returns-clause-told
returns-clause-told g c =
    rw c.status_of-status.ensures
    (tells_all (outputs fresh) c.one_after_another.ensures.judged (outputs_grow c.one_after_another.ensures.outputs)
    c.read_lines-outcome.result (g.S.Source.left c.args.input.now) _ _ _ _ c.read_lines-outcome.ensures.told)

pub returns-clause-ran : goal.returns-clause-ran
returns-clause-ran g c =
    rw c.status_of-status.ensures
    (ran_all (outputs fresh) c.one_after_another.ensures.judged (outputs_grow c.one_after_another.ensures.outputs)
    c.read_lines-outcome.result (g.S.Source.left c.args.input.now) _ _ _ _ c.read_lines-outcome.ensures.told)

pub returns-clause-kinds : goal.returns-clause-kinds
returns-clause-kinds g c = rw c.status_of-status.ensures (replays c.read_lines-outcome.result)
