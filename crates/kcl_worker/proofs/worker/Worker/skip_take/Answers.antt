use Rattle.std.proofs.Common.{drop, map, subst, sym}
use Rattle.kcl_worker.specs.Outlook.{NoneOver}
use Rattle.kcl_worker.specs.Parts.{IsTaking}
use Rattle.kcl_worker_lists.specs.Retirements.{retirement}
use Rattle.kcl_worker.proofs.Askings.{within_settled}
use Rattle.kcl_worker.proofs.Happenings.{live_on}
use Rattle.kcl_worker.proofs.Steppings.{skip_leaves, taking_so}
use Rattle.kcl_worker.proofs.Wholes.{still_worker}
use Rattle.kcl_worker.proofs.worker.Worker.skip_take.Goals as goal

pub invariant_of-self : goal.invariant_of-self
invariant_of-self g c =
    still_worker c.self.invariant
    (subst NoneOver (sym c.retire_finished.ensures.live) (live_on c.self.inside.consumers.items))
    tt
    c.retire_finished.ensures.room
    (within_settled g.P.Processor.asks (g.F.Maker.asks c.self.inside.maker) c.self.inside.consumers.items _
    c.retire_finished.ensures.live (c.self.invariant.within))

pub returns-clause-absorbed : goal.returns-clause-absorbed
returns-clause-absorbed g c = λ now answer none past st.
    let k = taking_so c.self.inside.awaited c.self.inside.syncs c.self.inside.takes
    (subst (λ v. IsTaking v.waiting) (sym c.self.view_is) c.requires) in
    skip_leaves g.P.Processor.stands_for _ _ c.self.view_is now answer k.0 c.advance.new.self
    (drop 1 c.self.inside.takes)
    c.retire_finished.new.consumers.items (map retirement c.retire_finished.new.retired.items) past
    k.1 c.advance.ensures none c.retire_finished.ensures.live c.retire_finished.ensures.over st
