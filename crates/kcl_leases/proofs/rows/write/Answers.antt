use Rattle.std.proofs.Common.{◌+◌}
use Rattle.std.proofs.lemmas.Result.{err_from_is_err_and}
use Rattle.kcl_table.specs.Rows.{row_of}
use Rattle.kcl_table.specs.Writes.{write_answer, written_row}
use Rattle.kcl_leases.proofs.CounterWrites.{is_written, not_own, renewal, renewal_agrees, write_asks, write_done}
use Rattle.kcl_leases.proofs.CounterWrites.{write_entry, write_refused, written_bound}
use Rattle.kcl_leases.specs.Conditions.{write_command}
use Rattle.kcl_leases.specs.Standing.{facing}
use Rattle.kcl_leases.proofs.rows.write.Goals as goal

pub returns-in_err-own : goal.returns-in_err-own
returns-in_err-own g c =
    let a = c.args in
    let p = err_from_is_err_and c.from_residual.result c.from_residual.ensures.1 in
    rw (p.1, p.2) (let s = (facing (g.L.Shards.clock a.shards.now) (g.L.Shards.shows a.shards.now)) in
    not_own s a.table.now a.book.now.tenures a.by a.tenure (write_command a.change a.tenure a.counter)
    (renewal (write_entry a.change a.tenure) s.clock a.by a.tenure a.counter)
    (write_asks a.change s.clock a.by a.tenure a.counter)
    c.in_err-own.field-0.0 c.in_err-own.ensures.value)

pub returns-in_err-next : goal.returns-in_err-next
returns-in_err-next g c =
    let a = c.args in
    let y = c.in_ok-own.own in
    let p = err_from_is_err_and c.from_residual-in_err-next.result c.from_residual-in_err-next.ensures.1 in
    rw (p.1, p.2, c.in_err-next.ensures.same)
    (let s = (facing (g.L.Shards.clock a.shards.now) (g.L.Shards.shows a.shards.now)) in
    write_refused s a.table.now a.book.now.tenures a.by a.tenure a.counter (write_command a.change a.tenure a.counter) y
    (write_entry a.change a.tenure)
    (write_answer (row_of a.table.now y.key) a.tenure a.counter)
    (renewal (write_entry a.change a.tenure) s.clock a.by a.tenure a.counter)
    (write_asks a.change s.clock a.by a.tenure a.counter) c.in_ok-own.ensures.value
    (λ log T is rows. renewal_agrees s.clock a.by a.tenure a.counter (write_entry a.change a.tenure) a.table.now y log T
    is rows)
    c.in_err-next.field-0.0 c.in_err-next.ensures.value)

pub returns : goal.returns
returns g c =
    let a = c.args in
    let y = c.in_ok-own.own in
    rw c.in_ok-next.ensures.written (let s = (facing (g.L.Shards.clock a.shards.now) (g.L.Shards.shows a.shards.now)) in
    write_done s a.table.now a.book.now.tenures a.by a.tenure a.counter (write_command a.change a.tenure a.counter) y
    (write_entry a.change a.tenure)
    (write_answer (row_of a.table.now y.key) a.tenure a.counter)
    (renewal (write_entry a.change a.tenure) s.clock a.by a.tenure a.counter)
    (write_asks a.change s.clock a.by a.tenure a.counter) c.in_ok-own.ensures.value
    (λ log T is rows. renewal_agrees s.clock a.by a.tenure a.counter (write_entry a.change a.tenure) a.table.now y log T
    is rows)
    (written_row a.change) c.in_ok-next.next c.lease_lines.ensures c.in_ok-next.ensures.value
    (is_written a.change a.tenure (a.counter + 1)) (written_bound a.change a.table.now y.key))
