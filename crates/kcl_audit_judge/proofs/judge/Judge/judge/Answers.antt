use Rattle.std.proofs.Common.{sym, ap, ◌∙◌}
use Rattle.std.specs.Prelude.{is_some}
use Rattle.kcl_audit_judge.proofs.JudgeSteps.{stream_good, stream_value}
use Rattle.kcl_audit_judge.proofs.judge.Judge.judge.Goals as goal

pub returns-then-is_some-clause-value : goal.returns-then-is_some-clause-value
returns-then-is_some-clause-value c =
    let me = c.self.inside in
    let e = c.stream_entry in
    λ log st. stream_value c.args.self.now me.streams e.new.streams me.table me.book.tenures c.self.view_is c.args.by
    c.args.what
    (ap is_some (sym c.stream.ensures) ∙ sym c.is_some.ensures ∙ c.if-is_some.true) log e.result e.ensures.value st

pub returns-then-is_some-clause-good : goal.returns-then-is_some-clause-good
returns-then-is_some-clause-good c =
    let me = c.self.inside in
    let e = c.stream_entry in
    λ log st. stream_good c.args.self.now me.streams e.new.streams me.table me.book.tenures c.self.view_is c.args.by
    c.args.what
    (ap is_some (sym c.stream.ensures) ∙ sym c.is_some.ensures ∙ c.if-is_some.true) log e.result e.ensures.clock
    e.ensures.value e.ensures.good st
