use Rattle.std.proofs.Common.{◌∙◌, ap, map, subst, sym}
use Rattle.kcl_defs.specs.Workers.{without_held}
use Rattle.kcl_worker.specs.Outlook.{NoneOver}
use Rattle.kcl_worker_lists.specs.Retirements.{retirement}
use Rattle.kcl_worker.proofs.Askings.{within_settled}
use Rattle.kcl_worker.proofs.Absorbings.{freeing_leaves}
use Rattle.kcl_worker.proofs.Happenings.{live_on}
use Rattle.kcl_worker.proofs.Wholes.{still_worker}
use Rattle.kcl_worker.proofs.worker.Worker.absorb_freeing.Goals as goal

pub invariant_of-self : goal.invariant_of-self
invariant_of-self g c =
    still_worker c.self.invariant
    (subst NoneOver (sym c.retire_finished.ensures.live) (live_on c.self.inside.consumers.items))
    tt
    c.retire_finished.ensures.room
    (within_settled g.P.Processor.asks (g.F.Maker.asks c.self.inside.maker) c.self.inside.consumers.items _
    c.retire_finished.ensures.live (c.self.invariant.within))

pub returns-clause-absorbed : goal.returns-clause-absorbed
returns-clause-absorbed g c = λ past st.
    freeing_leaves g.P.Processor.stands_for _ _ c.self.view_is c.args.now c.args.answer.now c.args.h
    c.drop_held.new.held.items
    c.retire_finished.new.consumers.items (map retirement c.retire_finished.new.retired.items) past
    c.requires (c.drop_held.ensures ∙ ap (λ i. without_held i c.self.inside.held.items) c.id_of_held.ensures)
    c.retire_finished.ensures.live c.retire_finished.ensures.over st
