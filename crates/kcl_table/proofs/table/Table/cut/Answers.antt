use Rattle.std.proofs.Common.{List, length, sym, ap, subst, ◌∙◌, arith}
use Rattle.std.specs.List.{remove}
use Rattle.kds_defs.specs.declared.reply.Row.{Row}
use Rattle.kcl_table.specs.Rows.{IsTable, insertion_index, row_of}
use Rattle.kcl_table.proofs.Changes.{remove_is, table_without}
use Rattle.kcl_table.proofs.table.Table.cut.Goals as goal

pub remove-requires : goal.remove-requires
remove-requires c =
    let table : IsTable c.args.self.now = subst IsTable c.self.view_is c.self.invariant in
    let row = ap (λ (rs : List Row). row_of rs c.args.key) (sym (c.deref.ensures.value ∙ c.self.view_is))
    ∙ sym c.in-Some.ensures in
    let index = c.insertion_index-index.ensures.value
    ∙ ap (insertion_index c.args.key) (c.deref-2.ensures.value ∙ c.self.view_is) in
    let gone = remove_is c.args.key c.in-Some.row.now c.args.self.now table.0 row in
    omega (arith, index, gone.0, ap length c.self.view_is)

pub invariant_of-self : goal.invariant_of-self
invariant_of-self c =
    let table : IsTable c.args.self.now = subst IsTable c.self.view_is c.self.invariant in
    let row = ap (λ (rs : List Row). row_of rs c.args.key) (sym (c.deref.ensures.value ∙ c.self.view_is))
    ∙ sym c.in-Some.ensures in
    let index = c.insertion_index-index.ensures.value
    ∙ ap (insertion_index c.args.key) (c.deref-2.ensures.value ∙ c.self.view_is) in
    let gone = remove_is c.args.key c.in-Some.row.now c.args.self.now table.0 row in
    let same = c.remove.ensures.items ∙ ap (λ (rs : List Row). remove rs c.insertion_index-index.result) c.self.view_is
    ∙ ap (λ i. remove c.args.self.now i) index ∙ gone.1 in
    subst IsTable (sym same) (table_without c.args.key c.args.self.now table)

pub returns-clause-cut : goal.returns-clause-cut
returns-clause-cut c =
    let table : IsTable c.args.self.now = subst IsTable c.self.view_is c.self.invariant in
    let row = ap (λ (rs : List Row). row_of rs c.args.key) (sym (c.deref.ensures.value ∙ c.self.view_is))
    ∙ sym c.in-Some.ensures in
    let index = c.insertion_index-index.ensures.value
    ∙ ap (insertion_index c.args.key) (c.deref-2.ensures.value ∙ c.self.view_is) in
    let gone = remove_is c.args.key c.in-Some.row.now c.args.self.now table.0 row in
    c.remove.ensures.items ∙ ap (λ (rs : List Row). remove rs c.insertion_index-index.result) c.self.view_is
    ∙ ap (λ i. remove c.args.self.now i) index ∙ gone.1
