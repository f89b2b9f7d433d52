use Rattle.std.proofs.Common.{◌≤◌, List, sym, ap, subst, ◌∙◌}
use Rattle.kds_defs.specs.declared.reply.Row.{Row}
use Rattle.kcl_table.specs.Rows.{IsTable, row_of}
use Rattle.kcl_table.specs.Writes.{written_row}
use Rattle.kcl_table.proofs.Changes.{found, key_written, puts, switches_written}
use Rattle.kcl_table.proofs.table.Table.write.Goals as goal

pub put-requires-clause-there : goal.put-requires-clause-there
put-requires-clause-there c =
    let table : IsTable c.args.self.now = subst IsTable c.self.view_is c.self.invariant in
    let row = ap (λ (rs : List Row). row_of rs c.args.key) (sym (c.deref.ensures.value ∙ c.self.view_is))
    ∙ c.in_ok-row.ensures.row in
    (puts (written_row c.args.change) c.args.key c.in_ok-row.row c.written.result c.args.self.now table.1 row
    c.written.ensures
    (key_written c.args.change c.in_ok-row.row)).there

pub put-requires-clause-counted : goal.put-requires-clause-counted
put-requires-clause-counted c =
    let table : IsTable c.args.self.now = subst IsTable c.self.view_is c.self.invariant in
    let row = ap (λ (rs : List Row). row_of rs c.args.key) (sym (c.deref.ensures.value ∙ c.self.view_is))
    ∙ c.in_ok-row.ensures.row in
    let counted = (found c.args.key c.in_ok-row.row c.args.self.now table.1 row).1 in
    subst (λ (r : Row). r.switches ≤ r.counter) (sym c.written.ensures)
    (switches_written c.args.change c.in_ok-row.row counted)

pub returns-clause-written : goal.returns-clause-written
returns-clause-written c =
    let table : IsTable c.args.self.now = subst IsTable c.self.view_is c.self.invariant in
    let row = ap (λ (rs : List Row). row_of rs c.args.key) (sym (c.deref.ensures.value ∙ c.self.view_is))
    ∙ c.in_ok-row.ensures.row in
    c.put.ensures ∙ (puts (written_row c.args.change) c.args.key c.in_ok-row.row c.written.result c.args.self.now
    table.1 row c.written.ensures
    (key_written c.args.change c.in_ok-row.row)).rows
