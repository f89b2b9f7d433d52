use Rattle.std.proofs.Common.{◌≡◌, ◌-◌, ◌≤◌, slice_set, ◌∙◌, true, false, subst, rules, refl, ap, sym}
use Rattle.kds_defs.specs.Records.{position_after}
use Rattle.kcl_book.specs.Tenures.{tenure_at, with_read}
use Rattle.kcl_leases.proofs.TenureWrites.{of_book, read_refused, reads_from, room_from, goes_onward}
use Rattle.kcl_leases.specs.Standing.{facing}
use Rattle.kcl_audit_streams.specs.Standing.{Shows}
use Rattle.kcl_audit_streams.specs.Verdict.{same_flag, same_list}
use Rattle.kcl_audit_streams.proofs.Others.{shows_lease}
use Rattle.kcl_audit_judge.proofs.ReadTold.{numbers_are, read_entry, read_other, read_refused_entry}
use Rattle.kcl_audit_judge.proofs.lease_entries.on_read.Goals as goal

pub returns-in-Err-clause-judged : goal.returns-in-Err-clause-judged
returns-in-Err-clause-judged c =
    let a = c.args in
    let s = facing a.shards.now.clock (Shows a.shards.now) in
    λ log st. read_refused_entry a.shards.now a.table.now a.book.now.tenures a.by a.no a.limit c.reach-position.result
    a.end a.numbers.now c.reach-position.ensures log st
    c.in-Err.refusal (read_refused s a.table.now a.book.now.tenures a.by a.no c.reach-position.result a.limit
    c.in-Err.refusal (λ log st. c.in-Err.ensures.value log st.shows))

pub returns-then-not-same_end-clause-judged : goal.returns-then-not-same_end-clause-judged
returns-then-not-same_end-clause-judged c =
    let a = c.args in
    let w = a.shards.now in
    let y = c.in-Ok.tenure in
    let v = c.in-Some.stream.now in
    let p = c.reach-position.result in
    let ms = c.in_ok-batch.batch in
    let e = c.in_ok-batch.ends in
    let other : same_flag e a.end ≡ false = search rules in
    λ log st. read_other w a.table.now a.book.now.tenures a.by a.no a.limit p a.end a.numbers.now
    c.reach-position.ensures log st
    y (c.in-Ok.ensures.value log st.shows) v (search rules) ms (search rules) e (search rules) (rw other refl)

pub returns-then-not-same_numbers-clause-judged : goal.returns-then-not-same_numbers-clause-judged
returns-then-not-same_numbers-clause-judged c =
    let a = c.args in
    let w = a.shards.now in
    let y = c.in-Ok.tenure in
    let v = c.in-Some.stream.now in
    let p = c.reach-position.result in
    let ms = c.in_ok-batch.batch in
    let e = c.in_ok-batch.ends in
    let same : same_flag e a.end ≡ true = search rules in
    let other : same_list ms a.numbers.now ≡ false = search rules in
    λ log st. read_other w a.table.now a.book.now.tenures a.by a.no a.limit p a.end a.numbers.now
    c.reach-position.ensures log st
    y (c.in-Ok.ensures.value log st.shows) v (search rules) ms (search rules) e (search rules) (rw (same, other) refl)

pub returns-clause-judged : goal.returns-clause-judged
returns-clause-judged c =
    let a = c.args in
    let w = a.shards.now in
    let y = c.in-Ok.tenure in
    let v = c.in-Some.stream.now in
    let p = c.reach-position.result in
    let ms = c.in_ok-batch.batch in
    let e = c.in_ok-batch.ends in
    λ log st. read_entry w a.table.now a.book.now.tenures a.by a.no a.limit p a.end a.numbers.now
    c.reach-position.ensures log st
    y (c.in-Ok.ensures.value log st.shows) v (search rules) ms (search rules) e (search rules) c.read-2.new.self.tenures
    c.position_after_numbers.result
    (λ log line sh is_at none. shows_lease w log line sh is_at none) (search rules)
    (of_book (tenure_at a.book.now.tenures a.no) c.read-2.new.self a.book.now
    (λ x. slice_set a.book.now.tenures (a.no - 1) (with_read c.position_after_numbers.result e x)) c.read-2.ensures)
    (search rules) (search rules)

pub read-requires-2-clause-few : goal.read-requires-2-clause-few
read-requires-2-clause-few c =
    let a = c.args in
    let log = c.requires.stands.0 in
    room_from (tenure_at a.book.now.tenures a.no) a.by log a.shards.now.clock c.reach-position.result c.in-Ok.tenure
    (c.in-Ok.ensures.value log c.requires.stands.1.shows)

pub read-requires-2-clause-onward : goal.read-requires-2-clause-onward
read-requires-2-clause-onward c =
    let a = c.args in
    let w = a.shards.now in
    let y = c.in-Ok.tenure in
    let v = c.in-Some.stream.now in
    let p = c.reach-position.result in
    let ms = c.in_ok-batch.batch in
    let e = c.in_ok-batch.ends in
    let is_at : c.position_after_numbers.result ≡ position_after p ms = search rules in
    let log = c.requires.stands.0 in
    let st = c.requires.stands.1 in
    let ns = numbers_are w a.table.now a.book.now.tenures a.by a.no a.limit p a.end a.numbers.now
    c.reach-position.ensures log st
    y (c.in-Ok.ensures.value log st.shows) v (search rules) ms (search rules) e (search rules) in
    reads_from (tenure_at a.book.now.tenures a.no) a.by log w.clock p c.position_after_numbers.result y
    (c.in-Ok.ensures.value log st.shows)
    (subst (λ n. p ≤ n) (sym (is_at ∙ ap (position_after p) ns))
    (goes_onward log w.clock y.key.stream y.key.shard p a.limit))
