use Rattle.std.proofs.Common.{List, length, slice_set, sym, ap, subst, ◌∙◌, arith}
use Rattle.kds_defs.specs.declared.reply.Row.{Row}
use Rattle.kcl_table.specs.Rows.{IsTable, insertion_index}
use Rattle.kcl_table.proofs.Changes.{set_is, table_changed}
use Rattle.kcl_table.proofs.table.Table.put.Goals as goal

pub index_mut-requires : goal.index_mut-requires
index_mut-requires c =
    let table : IsTable c.args.self.now = subst IsTable c.self.view_is c.self.invariant in
    let index = c.insertion_index-index.ensures.value
    ∙ ap (λ (r : Row). insertion_index r.key c.deref.result.now) c.row.view_is
    ∙ ap (insertion_index c.args.row.key) (c.deref.ensures.value ∙ c.self.view_is) in
    let within = (set_is c.args.row c.args.self.now table.0 c.requires.there).0 in
    omega (arith, index, within, ap length c.self.view_is)

pub invariant_of-self : goal.invariant_of-self
invariant_of-self c =
    let table : IsTable c.args.self.now = subst IsTable c.self.view_is c.self.invariant in
    let index = c.insertion_index-index.ensures.value
    ∙ ap (λ (r : Row). insertion_index r.key c.deref.result.now) c.row.view_is
    ∙ ap (insertion_index c.args.row.key) (c.deref.ensures.value ∙ c.self.view_is) in
    let same = ap (λ (rs : List Row). slice_set rs c.insertion_index-index.result c.args.row) c.self.view_is
    ∙ ap (λ i. slice_set c.args.self.now i c.args.row) index
    ∙ (set_is c.args.row c.args.self.now table.0 c.requires.there).1 in
    subst IsTable (sym same) (table_changed c.args.row c.args.self.now c.requires.counted table)

pub returns : goal.returns
returns c =
    let table : IsTable c.args.self.now = subst IsTable c.self.view_is c.self.invariant in
    let index = c.insertion_index-index.ensures.value
    ∙ ap (λ (r : Row). insertion_index r.key c.deref.result.now) c.row.view_is
    ∙ ap (insertion_index c.args.row.key) (c.deref.ensures.value ∙ c.self.view_is) in
    ap (λ (rs : List Row). slice_set rs c.insertion_index-index.result c.args.row) c.self.view_is
    ∙ ap (λ i. slice_set c.args.self.now i c.args.row) index
    ∙ (set_is c.args.row c.args.self.now table.0 c.requires.there).1
