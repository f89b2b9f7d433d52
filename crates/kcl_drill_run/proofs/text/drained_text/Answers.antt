use Rattle.std.proofs.Common.{ℕ, max, List, [], ◌++◌, ap, ◌∙◌}
use Rattle.kds_defs.specs.Histories.{clock, journal}
use Rattle.kcl_drill.specs.Summed.{summary_text}
use Rattle.kcl_drill_run.proofs.Drained.{HasLaws, can_drain, later, ready}
use Rattle.kcl_drill_run.proofs.text.drained_text.Goals as goal

pub returns-clause-text : goal.returns-clause-text
returns-clause-text g c = λ number records h stands is few horizon.
    let can = can_drain c.untrimmed.ensures h number records c.start.result c.start.ensures is few horizon in
    let left = c.in_ok-lone_drain.ensures.drained h stands can in
    let laws : HasLaws = record {
      drill = c.drained.ensures.drill;
      summed = c.summed.ensures;
      text = c.one_text.ensures.text;
    } in
    let r = ready laws (g.M.Machine.stands_for c.lone_drain.new.machine) h number records 0 c.start.result
    c.start-2.result c.start.ensures c.start-2.ensures
    is left in
    c.in_ok-summary.ensures.text r.turns r.read r.can
    ∙ ap (λ (old : List ℕ). old ++ summary_text (journal r.turns) (max (clock r.turns) c.start-2.result))
    c.new-text.ensures
    ∙ r.text

pub returns-clause-kept : goal.returns-clause-kept
returns-clause-kept g c = λ h stands.
    let left = c.in_ok-lone_drain.ensures.begun h stands in
    later (g.M.Machine.stands_for c.summary.new.machine) 0 c.start-2.result h left.more
    (c.in_ok-summary.ensures.read (left.more ++ h) (record { more = []; stands_now = left.stands_now; are = tt }))

pub returns-in_err-summary-clause-kept : goal.returns-in_err-summary-clause-kept
returns-in_err-summary-clause-kept g c = λ h stands.
    let left = c.in_ok-lone_drain.ensures.begun h stands in
    later (g.M.Machine.stands_for c.summary.new.machine) 0 c.start-2.result h left.more
    (c.in_err-summary.ensures.read (left.more ++ h) (record { more = []; stands_now = left.stands_now; are = tt }))

pub returns-in_err-lone_drain-clause-kept : goal.returns-in_err-lone_drain-clause-kept
returns-in_err-lone_drain-clause-kept g c = λ h stands.
    let left = c.in_err-lone_drain.ensures.begun h stands in
    (left.more, left.stands_now)
