use Rattle.std.proofs.Common.{arith}
use Rattle.kds_defs.specs.Histories.{journal}
use Rattle.kcl_drill.proofs.Readings.{untrimmed, young_if_legal}
use Rattle.kcl_drill.proofs.laws.untrimmed.Goals as goal

pub returns : goal.returns
returns c h moment s lawful later below =
    let reached = c.step.ensures.history h lawful in
    untrimmed (journal h) moment s
    (young_if_legal (journal h) reached.legal (omega (arith, reached.order, later, below)))
    below
