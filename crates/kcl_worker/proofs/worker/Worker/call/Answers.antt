use Rattle.std.proofs.Common.{◌+◌, ◌<◌, ◌≤◌, map, refl, subst, sym}
use Rattle.std.specs.Prelude.{IsSome}
use Rattle.std.specs.Vec.{vec_capacity, vec_len}
use Rattle.kcl_defs.specs.Workers.{due_known, worker_after}
use Rattle.kcl_worker.specs.Asks.{IsAskOf}
use Rattle.kcl_worker.specs.Outlook.{IsAsking, NoneOver}
use Rattle.kcl_worker.specs.Parts.{chore_of}
use Rattle.kcl_worker_lists.specs.Retirements.{retirement}
use Rattle.kcl_worker_lists.specs.Lists.{due_count, due_in}
use Rattle.kcl_worker.specs.Standing.{StandsFor}
use Rattle.kcl_worker.proofs.Askings.{asked_so, within_called, within_settled, within_uncalled}
use Rattle.kcl_worker.proofs.Counting.{fewer_due}
use Rattle.kcl_worker.proofs.Happenings.{asks_nothing, live_on, uncalled_on}
use Rattle.kcl_worker.proofs.Standings.{call_leaves, on_err_so, uncalled_stands}
use Rattle.kcl_worker.proofs.Wholes.{still_worker}
use Rattle.kcl_worker.proofs.worker.Worker.call.Goals as goal

pub invariant_of-self : goal.invariant_of-self
invariant_of-self g c =
    let due = subst (λ v. IsSome (due_in v.consumers)) (sym c.self.view_is) c.requires in
    let free = asks_nothing (chore_of c.self.inside.awaited c.self.inside.syncs c.self.inside.takes)
    c.self.inside.consumers.items due c.self.invariant.quiet in
    still_worker c.self.invariant
    (uncalled_on g.P.Processor.stands_for g.P.Processor.asks c.self.inside.consumers.items
    c.call_first.new.consumers.items c.in_err-call_first.ensures.err c.self.invariant.live)
    (subst (λ o. IsAsking o c.call_first.new.consumers.items) (sym free) tt)
    (subst (λ n. vec_len c.self.inside.retired + n ≤ vec_capacity c.self.inside.retired)
    (sym c.in_err-call_first.ensures.len) c.self.invariant.fits)
    (within_uncalled g.P.Processor.stands_for g.P.Processor.asks (g.F.Maker.asks c.self.inside.maker)
    c.self.inside.consumers.items c.call_first.new.consumers.items c.in_err-call_first.ensures.err
    c.self.invariant.within)

pub returns-in_err-call_first-clause-err : goal.returns-in_err-call_first-clause-err
returns-in_err-call_first-clause-err g c = on_err_so _ c.from_residual.result (λ past st.
    uncalled_stands g.P.Processor.stands_for g.P.Processor.asks _ _ c.call_first.new.consumers.items past
    c.in_err-call_first.ensures.err refl
    (subst (λ v. StandsFor g.P.Processor.stands_for v past) (sym c.self.view_is) st))

pub invariant_of-self-2 : goal.invariant_of-self-2
invariant_of-self-2 g c =
    let due = subst (λ v. IsSome (due_in v.consumers)) (sym c.self.view_is) c.requires in
    let free = asks_nothing (chore_of c.self.inside.awaited c.self.inside.syncs c.self.inside.takes)
    c.self.inside.consumers.items due c.self.invariant.quiet in
    still_worker c.self.invariant
    (subst NoneOver (sym c.retire_finished.ensures.live) (live_on c.call_first.new.consumers.items))
    (subst (λ o. IsAsking o c.retire_finished.new.consumers.items) (sym free) tt)
    c.retire_finished.ensures.room
    (within_settled g.P.Processor.asks (g.F.Maker.asks c.self.inside.maker) c.call_first.new.consumers.items _
    c.retire_finished.ensures.live
    (within_called g.P.Processor.stands_for g.P.Processor.asks (g.F.Maker.asks c.self.inside.maker)
    c.in_ok-call_first.ensures.ok.0 c.self.inside.consumers.items c.call_first.new.consumers.items
    c.in_ok-call_first.ensures.ok.1 c.self.invariant.within))

pub returns-clause-ok : goal.returns-clause-ok
returns-clause-ok g c = λ past st.
    let due = subst (λ v. IsSome (due_in v.consumers)) (sym c.self.view_is) c.requires in
    let free = asks_nothing (chore_of c.self.inside.awaited c.self.inside.syncs c.self.inside.takes)
    c.self.inside.consumers.items due c.self.invariant.quiet in
    let f = c.in_ok-call_first.ensures.ok in
    let st0 = subst (λ v. StandsFor g.P.Processor.stands_for v past) (sym c.self.view_is) st in (
      f.0,
      subst (λ v. IsAskOf (g.F.Maker.asks v.maker) (due_known (worker_after v.made past)) f.0) c.self.view_is
          (asked_so g.P.Processor.stands_for g.P.Processor.asks (g.F.Maker.asks c.self.inside.maker)
          f.0 c.self.inside.consumers.items c.call_first.new.consumers.items _ f.1 c.self.invariant.within
          st0.shows.consumers),
      call_leaves g.P.Processor.stands_for g.P.Processor.asks f.0 _ c.call_first.new.consumers.items
          c.retire_finished.new.consumers.items (map retirement c.retire_finished.new.retired.items) past free f.1
          c.retire_finished.ensures.live c.retire_finished.ensures.over
          st0,
    )

pub returns-clause-fewer : goal.returns-clause-fewer
returns-clause-fewer g c =
    subst (λ v. due_count c.retire_finished.new.consumers.items < due_count v.consumers) c.self.view_is
    (fewer_due g.P.Processor.stands_for g.P.Processor.asks c.in_ok-call_first.ensures.ok.0 c.self.inside.consumers.items
    c.call_first.new.consumers.items c.retire_finished.new.consumers.items c.in_ok-call_first.ensures.ok.1
    c.retire_finished.ensures.live)
