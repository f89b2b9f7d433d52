use Rattle.std.proofs.Common.{max}
use Rattle.kds_defs.specs.Histories.{clock, journal}
use Rattle.kcl_drill_summary.proofs.CountLemmas.{read_on}
use Rattle.kcl_drill_summary.proofs.counting.count_batch.Goals as goal

pub returns-clause-ok : goal.returns-clause-ok
returns-clause-ok g c = λ h has can goes.
    let i = c.args.iter in
    read_on (journal h) (max (clock h) c.args.at) c.args.by i c.args.count.count c.args.count.bytes
    c.absorb-seen.result.0.count c.absorb-seen.result.0.bytes c.absorb-seen.result.1 c.in_ok-answer.answer
    can goes (c.in_ok-answer.ensures.ok h has) c.absorb-seen.ensures.batch
