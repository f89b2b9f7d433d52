use Rattle.std.proofs.Common.{◌-◌, List, map, slice_set, ap, ◌∙◌}
use Rattle.kds_defs.specs.declared.reply.Stored.{Stored}
use Rattle.kds_defs.specs.Records.{batch, position_after}
use Rattle.kcl_book.specs.Tenures.{tenure_at, with_read}
use Rattle.kcl_leases.proofs.TenureWrites.{goes_onward, of_book, position_onward, read_done, read_refused, reads_from}
use Rattle.kcl_world.proofs.ServiceLines.{seen}
use Rattle.kcl_world.proofs.reads.read.Goals as goal

pub returns-in-Err-clause-leads : goal.returns-in-Err-clause-leads
returns-in-Err-clause-leads c =
    let a = c.args in
    λ rows. read_refused (seen a.service.now) rows a.book.now.tenures a.by a.tenure a.position a.limit c.in-Err.refusal
    (λ log st. c.in-Err.ensures.value log st.shows)

pub read-requires-2-clause-onward : goal.read-requires-2-clause-onward
read-requires-2-clause-onward c =
    let a = c.args in
    let y = c.in-Ok.own in
    let log = c.requires.0 in
    let clock = a.service.now.clock in
    let place = c.position_after-reach.ensures
    ∙ ap (λ (fs : List Stored). position_after a.position (map (λ (r : Stored). r.seq) fs)) c.as_slice.ensures in
    let onward = position_onward a.position c.position_after-reach.result c.in_ok-batch.batch
    (batch log clock y.key.stream y.key.shard a.position a.limit) (c.in_ok-batch.ensures.batch log c.requires.1)
    place
    (goes_onward log clock y.key.stream y.key.shard a.position a.limit) in
    reads_from (tenure_at a.book.now.tenures a.tenure) a.by log clock a.position c.position_after-reach.result y
    (c.in-Ok.ensures.value log c.requires.1) onward

pub returns-clause-leads : goal.returns-clause-leads
returns-clause-leads c =
    let a = c.args in
    let y = c.in-Ok.own in
    let ts = a.book.now.tenures in
    let place = c.position_after-reach.ensures
    ∙ ap (λ (fs : List Stored). position_after a.position (map (λ (r : Stored). r.seq) fs)) c.as_slice.ensures in
    λ rows. read_done (seen a.service.now) rows ts a.by a.tenure a.position a.limit y c.in_ok-batch.batch
    c.in_ok-batch.end c.position_after-reach.result c.read-2.new.self.tenures (c.lease_lines.ensures a.service.now)
    (λ log st. c.in-Ok.ensures.value log st.shows) (λ log st. c.in_ok-batch.ensures.batch log st.shows)
    (λ log st. c.in_ok-batch.ensures.end log st.shows) place
    (of_book (tenure_at ts a.tenure) c.read-2.new.self a.book.now
    (λ x. slice_set ts (a.tenure - 1) (with_read c.position_after-reach.result c.in_ok-batch.end x))
    c.read-2.ensures)
