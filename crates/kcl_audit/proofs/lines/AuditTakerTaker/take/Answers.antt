use Rattle.std.proofs.Common.{◌≡◌, false, sym, ap, subst, ◌∙◌}
use Rattle.kcl_audit.specs.Progress.{progress, step}
use Rattle.kcl_audit.specs.Stages.{IsAt, TakerValue, is_found}
use Rattle.kcl_audit.proofs.Stages.{breaks_off, goes_on, on_err}
use Rattle.kcl_audit.proofs.lines.AuditTakerTaker.take.Goals as goal

pub returns-in_err-report_stage-clause-breaks : goal.returns-in_err-report_stage-clause-breaks
returns-in_err-report_stage-clause-breaks c =
    let old = c.args.self.now in
    let new : TakerValue = record { judge = c.self-2.inside.audit; stage = c.in_ok-after.after } in
    let is_before : is_found old.stage ≡ false = ap (λ (v : TakerValue). is_found v.stage) (sym c.self.view_is)
    ∙ sym c.is_found.ensures ∙ c.if-is_found.false in
    on_err c.from_residual-in_err-report_stage.result _ (λ lines took.
    breaks_off old new lines c.args.text.now is_before took
    (subst (λ (v : TakerValue). IsAt c.in_ok-after.after v.judge (step (progress lines) c.args.text.now))
    (sym c.self-2.view_is)
    (c.in_ok-after.ensures.at lines took)))

pub returns-clause-goes : goal.returns-clause-goes
returns-clause-goes c = λ more lines took.
    let old = c.args.self.now in
    let new : TakerValue = record { judge = c.self-2.inside.audit; stage = c.in_ok-after.after } in
    let is_before : is_found old.stage ≡ false = ap (λ (v : TakerValue). is_found v.stage) (sym c.self.view_is)
    ∙ sym c.is_found.ensures ∙ c.if-is_found.false in
    goes_on old new lines c.args.text.now is_before took
    (subst (λ (v : TakerValue). IsAt c.in_ok-after.after v.judge (step (progress lines) c.args.text.now))
    (sym c.self-2.view_is)
    (c.in_ok-after.ensures.at lines took))
    c.args.to.now c.report_stage.new.to c.in_ok-report_stage.ensures.ok
