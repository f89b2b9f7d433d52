use Rattle.std.proofs.Common.{subst}
use Rattle.kds_lines.specs.Telling.{Told}
use Rattle.kcl_audit.specs.Stages.{Broke, IsOver, Took, texts_report}
use Rattle.kcl_audit.proofs.Outcomes.{told_bad, told_memory, told_unfinished, told_whole, told_write}
use Rattle.kcl_audit.proofs.run.end_audit.Goals as goal

pub returns-in-Write-clause-told : goal.returns-in-Write-clause-told
returns-in-Write-clause-told g c = λ bytes left start t. told_write c.args.taker.now bytes left start _ c.args.outcome t

pub returns-in-Memory-clause-told : goal.returns-in-Memory-clause-told
returns-in-Memory-clause-told g c =
    λ bytes left start t. told_memory c.args.taker.now bytes left start _ c.args.outcome t

pub returns-then-is_over-clause-told : goal.returns-then-is_over-clause-told
returns-then-is_over-clause-told g c = λ bytes left start t.
    told_bad c.args.taker.now bytes left start _ c.args.outcome c.in_default.not-Write c.in_default.not-Memory
    c.if-is_over.ensures t

pub returns-in-Whole-clause-told : goal.returns-in-Whole-clause-told
returns-in-Whole-clause-told g c = λ bytes left start t.
    let mid = g.K.Sink.held c.args.out.now in
    told_whole c.args.taker.now bytes left start mid _ c.tell_end.result c.tell_end.ensures.told
    (subst (λ o. Told o (Took c.args.taker.now) (Broke c.args.taker.now) IsOver texts_report bytes left start mid)
    c.in-Whole.is t)

pub returns-in-Unfinished-clause-told : goal.returns-in-Unfinished-clause-told
returns-in-Unfinished-clause-told g c = λ bytes left start t.
    let mid = g.K.Sink.held c.args.out.now in
    told_unfinished c.args.taker.now bytes left start mid _ c.tell_end-in-Unfinished.result c.in-Unfinished.field-0
    c.tell_end-in-Unfinished.ensures.told
    (subst (λ o. Told o (Took c.args.taker.now) (Broke c.args.taker.now) IsOver texts_report bytes left start mid)
    c.in-Unfinished.is t)
