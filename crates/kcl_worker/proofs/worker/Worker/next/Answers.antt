use Rattle.std.proofs.Common.{◌∙◌, ap, subst, sym}
use Rattle.std.specs.List.{AllByRecursion}
use Rattle.kcl_defs.specs.Workers.{chore_from}
use Rattle.kcl_worker.specs.Outlook.{IsGiven, IsReady}
use Rattle.kcl_worker.specs.Parts.{round_of}
use Rattle.kcl_worker_lists.specs.Lists.{due_in}
use Rattle.kcl_worker.specs.Standing.{ConsumersStand}
use Rattle.kcl_worker.proofs.Outlooks.{asked_leaves, none_left, ready}
use Rattle.kcl_worker.proofs.worker.Worker.next.Goals as goal

pub next_in_part-requires-clause-ready : goal.next_in_part-requires-clause-ready
next_in_part-requires-clause-ready g c =
    subst (AllByRecursion IsReady) (sym c.as_slice.ensures.value)
    (ready c.self.inside.consumers.items (ap (λ v. due_in v.consumers) c.self.view_is ∙ c.requires.none_due)
    c.self.invariant.live)

pub returns-in-Some-clause-next : goal.returns-in-Some-clause-next
returns-in-Some-clause-next g c = λ past st.
    let made = c.self.inside.made in
    let part = c.self.inside.part in
    let stands = g.P.Processor.stands_for in
    asked_leaves stands _ _ c.self.view_is c.args.now c.self.inside.syncs c.self.inside.takes c.in-Some.awaited
    c.in-Some.what past c.requires.unasked
    (λ s stand same.
    subst (λ ts. IsGiven made s c.self.inside.syncs ts
    (chore_from made.settings.failover c.args.now s (round_of part c.self.inside.syncs ts))
    c.in-Some.awaited c.in-Some.what) c.rest-2.ensures
    (subst (λ ss. IsGiven made s ss c.rest-2.result.now
    (chore_from made.settings.failover c.args.now s (round_of part ss c.rest-2.result.now))
    c.in-Some.awaited c.in-Some.what) c.rest.ensures
    (c.in-Some.ensures.some s (subst (λ cs. ConsumersStand stands cs s.consumers) (sym c.as_slice.ensures.value) stand)
    (c.as_slice-2.ensures.value ∙ same)))) st

pub returns-in-None-clause-next : goal.returns-in-None-clause-next
returns-in-None-clause-next g c = λ past st.
    let made = c.self.inside.made in
    let part = c.self.inside.part in
    let stands = g.P.Processor.stands_for in
    absurd (none_left stands _ _ c.self.view_is c.args.now past c.requires.none_due c.requires.busy
    (λ s stand same.
    ap (λ ts. chore_from made.settings.failover c.args.now s (round_of part c.self.inside.syncs ts))
    (sym c.rest-2.ensures)
    ∙ ap (λ ss. chore_from made.settings.failover c.args.now s (round_of part ss c.rest-2.result.now))
    (sym c.rest.ensures)
    ∙ c.in-None.ensures.none s (subst (λ cs. ConsumersStand stands cs s.consumers) (sym c.as_slice.ensures.value) stand)
    (c.as_slice-2.ensures.value ∙ same)) st)
