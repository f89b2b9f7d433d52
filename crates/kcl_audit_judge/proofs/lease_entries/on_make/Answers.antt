use Rattle.std.proofs.Common.{rules, ◌≡◌, sym, ◌∙◌, true, false, ap}
use Rattle.std.specs.Prelude.{is_some}
use Rattle.kcl_leases.proofs.RowWrites.{unlisted}
use Rattle.kcl_leases.specs.Standing.{facing, leases}
use Rattle.kcl_table.specs.Rows.{row_of}
use Rattle.kcl_audit_streams.specs.Standing.{Shows}
use Rattle.kcl_audit_streams.specs.Verdict.{same_origin}
use Rattle.kcl_audit_streams.proofs.SameEntries.{origin_so}
use Rattle.kcl_audit_judge.proofs.LeaseLines.{counts_is, made_entry, made_gone, made_other, made_there}
use Rattle.kcl_audit_judge.proofs.lease_entries.on_make.Goals as goal

pub returns-in_default-clause-judged : goal.returns-in_default-clause-judged
returns-in_default-clause-judged c =
    let a = c.args in
    let s = facing a.shards.now.clock (Shows a.shards.now) in
    λ log st. made_gone s a.table.now a.book.now.tenures a.by a.key.now a.from.now log st
    (unlisted log a.shards.now.clock a.key.now (c.in_default.ensures log st.shows))

pub returns-then-not-is_listed-clause-judged : goal.returns-then-not-is_listed-clause-judged
returns-then-not-is_listed-clause-judged c =
    let a = c.args in
    let s = facing a.shards.now.clock (Shows a.shards.now) in
    λ log st. made_gone s a.table.now a.book.now.tenures a.by a.key.now a.from.now log st
    (sym (c.if-not-is_listed.ensures.shown log st.shows))

pub returns-then-is_some-clause-judged : goal.returns-then-is_some-clause-judged
returns-then-is_some-clause-judged c =
    let a = c.args in
    let s = facing a.shards.now.clock (Shows a.shards.now) in
    let there : is_some (row_of a.table.now a.key.now) ≡ true = search rules in
    λ log st. made_there s a.table.now a.book.now.tenures a.by a.key.now a.from.now log st
    (sym (c.if-not-is_listed.ensures.shown log st.shows)) there

pub returns-then-not-counts-clause-judged : goal.returns-then-not-counts-clause-judged
returns-then-not-counts-clause-judged c =
    let a = c.args in
    let s = facing a.shards.now.clock (Shows a.shards.now) in
    let none : is_some (row_of a.table.now a.key.now) ≡ false = search rules in
    λ log st. made_other s a.table.now a.book.now.tenures a.by a.key.now a.from.now log st
    (sym (c.if-not-is_listed.ensures.shown log st.shows)) none
    (ap (λ o. same_origin o a.from.now)
    (sym (counts_is s a.table.now a.book.now.tenures a.by a.key.now a.from.now log st c.in-Some.shard.now
    (c.in-Some.ensures log st.shows)))
    ∙ sym (c.if-not-counts.ensures log st.shows))

pub returns-clause-judged : goal.returns-clause-judged
returns-clause-judged c =
    let a = c.args in
    let s = facing a.shards.now.clock (Shows a.shards.now) in
    λ log st.
    made_entry (leases s a.table.now a.book.now.tenures) (leases s c.make.new.table a.book.now.tenures)
    a.by c.in_ok-answer.answer c.by_answer.result c.by_answer.ensures log st a.key.now a.from.now
    (sym (counts_is s a.table.now a.book.now.tenures a.by a.key.now a.from.now log st c.in-Some.shard.now
    (c.in-Some.ensures log st.shows))
    ∙ origin_so _ a.from.now (sym (c.if-not-counts.ensures log st.shows)))
    (c.in_ok-answer.ensures.leads a.by a.book.now.tenures)
