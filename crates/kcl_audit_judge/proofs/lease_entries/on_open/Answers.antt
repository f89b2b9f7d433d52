use Rattle.kcl_leases.specs.Standing.{facing, leases}
use Rattle.kcl_audit_streams.specs.Standing.{Shows}
use Rattle.kcl_audit_judge.proofs.LeaseLines.{opened_entry}
use Rattle.kcl_audit_judge.proofs.lease_entries.on_open.Goals as goal

pub returns : goal.returns
returns c =
    let a = c.args in
    let s = (facing a.shards.now.clock (Shows a.shards.now)) in
    λ log st. opened_entry (leases s a.table.now a.book.now.tenures) (leases s a.table.now c.open.new.book.tenures)
    a.by c.open.result c.by_answer.result c.by_answer.ensures log st a.tenure c.open.ensures
