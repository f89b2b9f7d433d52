use Rattle.std.proofs.Common.{◌≤◌, List, refl, sym, ap, subst, ◌∙◌}
use Rattle.kds_defs.specs.declared.reply.Row.{Row}
use Rattle.kds_defs.specs.Leases.{taken_row}
use Rattle.kcl_table.specs.Rows.{IsTable, row_of}
use Rattle.kcl_table.proofs.Changes.{found, puts, switches_taken}
use Rattle.kcl_table.proofs.table.Table.take.Goals as goal

pub taken-requires-clause-switches : goal.taken-requires-clause-switches
taken-requires-clause-switches c =
    let table : IsTable c.args.self.now = subst IsTable c.self.view_is c.self.invariant in
    let row = ap (λ (rs : List Row). row_of rs c.args.key) (sym (c.deref.ensures.value ∙ c.self.view_is))
    ∙ sym c.in-Some.ensures in
    (found c.args.key c.in-Some.row.now c.args.self.now table.1 row).1

pub put-requires-clause-there : goal.put-requires-clause-there
put-requires-clause-there c =
    let table : IsTable c.args.self.now = subst IsTable c.self.view_is c.self.invariant in
    let row = ap (λ (rs : List Row). row_of rs c.args.key) (sym (c.deref.ensures.value ∙ c.self.view_is))
    ∙ sym c.in-Some.ensures in
    (puts (taken_row c.args.tenure c.args.owner) c.args.key c.in-Some.row.now c.taken.result c.args.self.now table.1 row
    c.taken.ensures refl).there

pub put-requires-clause-counted : goal.put-requires-clause-counted
put-requires-clause-counted c =
    let table : IsTable c.args.self.now = subst IsTable c.self.view_is c.self.invariant in
    let row = ap (λ (rs : List Row). row_of rs c.args.key) (sym (c.deref.ensures.value ∙ c.self.view_is))
    ∙ sym c.in-Some.ensures in
    let counted = (found c.args.key c.in-Some.row.now c.args.self.now table.1 row).1 in
    subst (λ (r : Row). r.switches ≤ r.counter) (sym c.taken.ensures)
    (switches_taken c.args.tenure c.args.owner c.in-Some.row.now counted)

pub returns-clause-taken : goal.returns-clause-taken
returns-clause-taken c =
    let table : IsTable c.args.self.now = subst IsTable c.self.view_is c.self.invariant in
    let row = ap (λ (rs : List Row). row_of rs c.args.key) (sym (c.deref.ensures.value ∙ c.self.view_is))
    ∙ sym c.in-Some.ensures in
    c.put.ensures ∙ (puts (taken_row c.args.tenure c.args.owner) c.args.key c.in-Some.row.now c.taken.result
    c.args.self.now table.1 row c.taken.ensures refl).rows
