use Rattle.std.proofs.Common.{◌∙◌, ap, map, subst, sym}
use Rattle.kcl_worker_lists.specs.Changes.{lost_among}
use Rattle.kcl_worker.specs.Outlook.{NoneOver}
use Rattle.kcl_worker_lists.specs.Planning.{is_among}
use Rattle.kcl_worker_lists.specs.Retirements.{retirement}
use Rattle.kcl_worker.specs.Asks.{AskWithin}
use Rattle.kcl_worker.proofs.Askings.{within_lost, within_settled}
use Rattle.kcl_worker.proofs.Happenings.{live_on}
use Rattle.kcl_worker.proofs.Surveys.{planned_leaves}
use Rattle.kcl_worker.proofs.Wholes.{still_worker}
use Rattle.kcl_worker.proofs.worker.Worker.follow.Goals as goal

pub invariant_of-self : goal.invariant_of-self
invariant_of-self g c =
    still_worker c.self.invariant
    (subst NoneOver (sym c.retire_finished.ensures.live) (live_on c.lose_these.new.consumers.items))
    tt
    c.retire_finished.ensures.room
    (within_settled g.P.Processor.asks (g.F.Maker.asks c.self.inside.maker) c.lose_these.new.consumers.items _
    c.retire_finished.ensures.live
    (subst (AskWithin g.P.Processor.asks (g.F.Maker.asks c.self.inside.maker)) (sym c.lose_these.ensures)
    (within_lost g.P.Processor.asks (g.F.Maker.asks c.self.inside.maker) (is_among c.as_slice.result.now)
    c.self.inside.consumers.items c.self.invariant.within)))

pub returns-clause-absorbed : goal.returns-clause-absorbed
returns-clause-absorbed g c = λ now answer planned past st.
    planned_leaves g.P.Processor.stands_for _ _ c.self.view_is now answer c.args.p c.new-left_syncs.result
    c.new-left_takes.result c.lose_these.new.consumers.items
    c.retire_finished.new.consumers.items (map retirement c.retire_finished.new.retired.items) past
    c.requires planned c.new-left_syncs.ensures c.new-left_takes.ensures
    (c.lose_these.ensures ∙ ap (λ hs. lost_among (is_among hs) c.self.inside.consumers.items) c.as_slice.ensures.value)
    c.retire_finished.ensures.live c.retire_finished.ensures.over st
