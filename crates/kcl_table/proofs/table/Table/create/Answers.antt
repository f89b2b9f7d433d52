use Rattle.std.proofs.Common.{◌≡◌, List, None, sym, ap, subst, ◌∙◌, arith}
use Rattle.std.specs.List.{insert}
use Rattle.kds_defs.specs.declared.reply.Row.{Row}
use Rattle.kds_defs.specs.Leases.{new_row}
use Rattle.kcl_table.specs.Rows.{IsTable, insertion_index, row_of}
use Rattle.kcl_table.proofs.Changes.{insert_is, table_with}
use Rattle.kcl_table.proofs.table.Table.create.Goals as goal

pub invariant_of-self-2 : goal.invariant_of-self-2
invariant_of-self-2 c =
    let table : IsTable c.args.self.now = subst IsTable c.self.view_is c.self.invariant in
    let none : row_of c.args.self.now c.args.key ≡ None =
    ap (λ (rs : List Row). row_of rs c.args.key) (sym (c.deref.ensures.value ∙ c.self.view_is))
    ∙ sym c.in-None.ensures in
    let new = new_row c.args.key c.args.floor c.args.start c.args.parent c.args.adjacent in
    let index = c.insertion_index-index.ensures.value
    ∙ ap (insertion_index c.args.key) (c.deref-2.ensures.value ∙ c.self.view_is) in
    let same = c.in_ok-insert.ensures.items
    ∙ ap (insert c.self.inside.rows.items c.insertion_index-index.result) c.first.ensures
    ∙ ap (λ (rs : List Row). insert rs c.insertion_index-index.result new) c.self.view_is
    ∙ ap (λ i. insert c.args.self.now i new) index ∙ insert_is new c.args.self.now none in
    subst IsTable (sym same) (table_with new c.args.self.now none (omega arith) table)

pub returns-clause-made : goal.returns-clause-made
returns-clause-made c =
    let table : IsTable c.args.self.now = subst IsTable c.self.view_is c.self.invariant in
    let none : row_of c.args.self.now c.args.key ≡ None =
    ap (λ (rs : List Row). row_of rs c.args.key) (sym (c.deref.ensures.value ∙ c.self.view_is))
    ∙ sym c.in-None.ensures in
    let new = new_row c.args.key c.args.floor c.args.start c.args.parent c.args.adjacent in
    let index = c.insertion_index-index.ensures.value
    ∙ ap (insertion_index c.args.key) (c.deref-2.ensures.value ∙ c.self.view_is) in
    let same = c.in_ok-insert.ensures.items
    ∙ ap (insert c.self.inside.rows.items c.insertion_index-index.result) c.first.ensures
    ∙ ap (λ (rs : List Row). insert rs c.insertion_index-index.result new) c.self.view_is
    ∙ ap (λ i. insert c.args.self.now i new) index ∙ insert_is new c.args.self.now none in
    same
