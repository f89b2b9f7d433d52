use Rattle.kcl_leases.specs.Standing.{facing, leases}
use Rattle.kcl_audit_streams.specs.Standing.{Shows}
use Rattle.kcl_audit_judge.proofs.LeaseLines.{freed_entry}
use Rattle.kcl_audit_judge.proofs.lease_entries.on_free.Goals as goal

pub returns : goal.returns
returns c =
    let a = c.args in
    let s = (facing a.shards.now.clock (Shows a.shards.now)) in
    λ log st. freed_entry (leases s a.table.now a.book.now.tenures) (leases s c.free.new.table a.book.now.tenures)
    a.by c.free.result c.by_answer.result c.by_answer.ensures log st a.tenure a.counter c.requires c.free.ensures
