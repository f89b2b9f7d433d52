use Rattle.std.proofs.Common.{rules, ◌≡◌, ◌+◌, ◌-◌, length, ap, ◌∙◌, true, false}
use Rattle.std.specs.Prelude.{◌==◌}
use Rattle.kds_base.proofs.Facts.{equal_so, differ_so}
use Rattle.kcl_leases.specs.Conditions.{start_answer}
use Rattle.kcl_leases.specs.Standing.{facing, leases}
use Rattle.kcl_table.specs.Rows.{row_of}
use Rattle.kcl_audit_streams.specs.Standing.{Shows}
use Rattle.kcl_audit_judge.proofs.LeaseLines.{taken_entry, taken_other, taken_refused}
use Rattle.kcl_audit_judge.proofs.lease_entries.on_take.Goals as goal

pub returns-in-Err-clause-judged : goal.returns-in-Err-clause-judged
returns-in-Err-clause-judged c =
    let a = c.args in
    λ log st. taken_refused (facing a.shards.now.clock (Shows a.shards.now)) a.table.now a.book.now.tenures a.by
    a.key.now a.no a.counter a.owner c.requires.written log st
    c.in-Err.refusal (c.in-Err.ensures
    ∙ ap (start_answer (row_of a.table.now a.key.now) (a.counter - 1)) c.spent.ensures)

pub returns-then-not-is_next-clause-judged : goal.returns-then-not-is_next-clause-judged
returns-then-not-is_next-clause-judged c =
    let a = c.args in
    let other : (a.no == length a.book.now.tenures + 1) ≡ false = search rules in
    λ log st. taken_other (facing a.shards.now.clock (Shows a.shards.now)) a.table.now a.book.now.tenures a.by a.key.now
    a.no a.counter a.owner c.requires.written log st
    c.in_default.field-0 (c.in_default.ensures
    ∙ ap (start_answer (row_of a.table.now a.key.now) (a.counter - 1)) c.spent.ensures)
    (differ_so a.no (length a.book.now.tenures + 1) other)

pub returns-clause-judged : goal.returns-clause-judged
returns-clause-judged c =
    let a = c.args in
    let next : (a.no == length a.book.now.tenures + 1) ≡ true = search rules in
    let s = facing a.shards.now.clock (Shows a.shards.now) in
    λ log st. taken_entry s a.table.now a.book.now.tenures a.by a.key.now a.no a.counter a.owner c.requires.written log
    st
    (leases s c.take.new.table c.take.new.book.tenures) c.in_ok-answer.answer c.by_answer.result c.by_answer.ensures
    (equal_so a.no (length a.book.now.tenures + 1) next) c.in_ok-answer.ensures.leads
