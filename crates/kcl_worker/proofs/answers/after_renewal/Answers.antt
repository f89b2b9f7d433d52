use Rattle.std.proofs.Common.{◌∙◌, ap, true}
use Rattle.kcl_defs.specs.Workers.{same_id}
use Rattle.kcl_worker.specs.Asks.{processors}
use Rattle.kcl_worker.proofs.Askings.{lost_processors}
use Rattle.kcl_worker.proofs.Absorbings.{refused_leaves}
use Rattle.kcl_worker.proofs.answers.after_renewal.Goals as goal

pub returns-in-Refused-clause-leaves : goal.returns-in-Refused-clause-leaves
returns-in-Refused-clause-leaves g c = λ s same stand.
    refused_leaves g.P.Processor.stands_for s c.args.now c.args.h.now c.args.answer.now true c.id_of_held-id.result
    c.args.held.now.items c.drop_held.new.held.items c.args.consumers.now.items c.lose_one.new.consumers.items
    c.id_of_held-id.ensures (c.in-Refused.ensures.renewal c.args.now c.args.h.now s) c.drop_held.ensures
    c.lose_one.ensures same stand

pub returns-in-Refused-clause-processors : goal.returns-in-Refused-clause-processors
returns-in-Refused-clause-processors g c =
    ap processors c.lose_one.ensures
    ∙ lost_processors (λ i. same_id i c.id_of_held-id.result) c.args.consumers.now.items
