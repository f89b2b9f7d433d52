use Rattle.std.proofs.Common.{List, refl, sym, ap, subst, ◌∙◌}
use Rattle.kds_defs.specs.declared.reply.Row.{Row}
use Rattle.kds_defs.specs.Leases.{marked_row}
use Rattle.kcl_table.specs.Rows.{IsTable, row_of}
use Rattle.kcl_table.proofs.Changes.{puts}
use Rattle.kcl_table.proofs.table.Table.mark.Goals as goal

pub put-requires-clause-there : goal.put-requires-clause-there
put-requires-clause-there c =
    let table : IsTable c.args.self.now = subst IsTable c.self.view_is c.self.invariant in
    let row = ap (λ (rs : List Row). row_of rs c.args.key) (sym (c.deref.ensures.value ∙ c.self.view_is))
    ∙ c.in_ok-row.ensures.row in
    (puts (marked_row c.args.to) c.args.key c.in_ok-row.row c.marked.result c.args.self.now table.1 row c.marked.ensures
    refl).there

pub returns-clause-marked : goal.returns-clause-marked
returns-clause-marked c =
    let table : IsTable c.args.self.now = subst IsTable c.self.view_is c.self.invariant in
    let row = ap (λ (rs : List Row). row_of rs c.args.key) (sym (c.deref.ensures.value ∙ c.self.view_is))
    ∙ c.in_ok-row.ensures.row in
    c.put.ensures ∙ (puts (marked_row c.args.to) c.args.key c.in_ok-row.row c.marked.result c.args.self.now table.1 row
    c.marked.ensures refl).rows
