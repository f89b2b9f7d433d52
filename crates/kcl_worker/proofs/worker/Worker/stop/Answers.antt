use Rattle.std.proofs.Common.{◌≡◌, true, ◌∙◌, ◌++◌, None, ap, map, subst, sym}
use Rattle.kcl_worker_lists.specs.Changes.{live_among, retired_among}
use Rattle.kcl_worker.specs.Outlook.{IsAsking, NoneOver}
use Rattle.kcl_worker.specs.Parts.{chore_of}
use Rattle.kcl_worker_lists.specs.Retirements.{retirement}
use Rattle.kcl_worker.specs.Standing.{StandsFor}
use Rattle.kcl_worker.specs.Asks.{AskWithin}
use Rattle.kcl_worker.proofs.Askings.{within_lost, within_settled}
use Rattle.kcl_worker.proofs.Happenings.{live_on}
use Rattle.kcl_worker.proofs.Standings.{stop_leaves}
use Rattle.kcl_worker.proofs.Wholes.{still_worker}
use Rattle.kcl_worker.proofs.worker.Worker.stop.Goals as goal

pub invariant_of-self : goal.invariant_of-self
invariant_of-self g c =
    let free : chore_of c.self.inside.awaited c.self.inside.syncs c.self.inside.takes ≡ None =
    ap (λ v. v.waiting) c.self.view_is ∙ c.requires in
    still_worker c.self.invariant
    (subst NoneOver (sym c.retire_finished.ensures.live) (live_on c.lose_all.new.consumers.items))
    (subst (λ o. IsAsking o c.retire_finished.new.consumers.items) (sym free) tt)
    c.retire_finished.ensures.room
    (within_settled g.P.Processor.asks (g.F.Maker.asks c.self.inside.maker) c.lose_all.new.consumers.items _
    c.retire_finished.ensures.live
    (subst (AskWithin g.P.Processor.asks (g.F.Maker.asks c.self.inside.maker)) (sym c.lose_all.ensures)
    (within_lost g.P.Processor.asks (g.F.Maker.asks c.self.inside.maker) (λ id. true)
    c.self.inside.consumers.items c.self.invariant.within)))

pub returns-clause-stands : goal.returns-clause-stands
returns-clause-stands g c = λ past st.
    let free : chore_of c.self.inside.awaited c.self.inside.syncs c.self.inside.takes ≡ None =
    ap (λ v. v.waiting) c.self.view_is ∙ c.requires in
    stop_leaves g.P.Processor.stands_for _ c.retire_finished.new.consumers.items
    (map retirement c.retire_finished.new.retired.items) past free
    (c.retire_finished.ensures.live ∙ ap live_among c.lose_all.ensures)
    (c.retire_finished.ensures.over
    ∙ ap (λ cs. map retirement c.self.inside.retired.items ++ retired_among cs) c.lose_all.ensures)
    (subst (λ v. StandsFor g.P.Processor.stands_for v past) (sym c.self.view_is) st)
