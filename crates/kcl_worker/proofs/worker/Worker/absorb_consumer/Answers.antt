use Rattle.std.proofs.Common.{map, subst, sym}
use Rattle.kcl_worker.specs.Outlook.{NoneOver}
use Rattle.kcl_worker_lists.specs.Retirements.{retirement}
use Rattle.kcl_worker.specs.Asks.{AskWithin}
use Rattle.kcl_worker.proofs.Askings.{within_answered, within_settled}
use Rattle.kcl_worker.proofs.Absorbings.{consumer_leaves}
use Rattle.kcl_worker.proofs.Happenings.{live_on}
use Rattle.kcl_worker.proofs.Wholes.{still_worker}
use Rattle.kcl_worker.proofs.worker.Worker.absorb_consumer.Goals as goal

pub invariant_of-self : goal.invariant_of-self
invariant_of-self g c =
    still_worker c.self.invariant
    (subst NoneOver (sym c.retire_finished.ensures.live) (live_on c.after_consumer.new.consumers.items))
    tt
    c.retire_finished.ensures.room
    (within_settled g.P.Processor.asks (g.F.Maker.asks c.self.inside.maker) c.after_consumer.new.consumers.items _
    c.retire_finished.ensures.live
    (subst (AskWithin g.P.Processor.asks (g.F.Maker.asks c.self.inside.maker))
    (sym c.after_consumer.ensures.consumers)
    (within_answered g.P.Processor.asks (g.F.Maker.asks c.self.inside.maker) _ _ c.self.inside.consumers.items
    c.self.invariant.within)))

pub returns-clause-absorbed : goal.returns-clause-absorbed
returns-clause-absorbed g c = λ past st.
    consumer_leaves g.P.Processor.stands_for _ _ c.self.view_is c.args.now c.args.answer c.args.id
    c.after_consumer.new.held.items c.after_consumer.new.consumers.items
    c.retire_finished.new.consumers.items (map retirement c.retire_finished.new.retired.items) past
    c.requires c.after_consumer.ensures.held c.after_consumer.ensures.consumers c.retire_finished.ensures.live
    c.retire_finished.ensures.over st
