use Rattle.std.proofs.Common.{◌≡◌, ap, sym, ◌∙◌}
use Rattle.std.specs.Prelude.{slice_get}
use Rattle.kcl_defs.specs.declared.plans.Held.{Held}
use Rattle.kds_defs.specs.declared.reply.Row.{Row}
use Rattle.kcl_defs.specs.Places.{insertion_index, passes}
use Rattle.kcl_defs.specs.Plans.{is_held_at, is_mine}
use Rattle.kcl_take.proofs.Places.{mine_there}
use Rattle.kcl_take.proofs.taking.search_mine.Goals as goal

pub returns-then-is_mine_at : goal.returns-then-is_mine_at
returns-then-is_mine_at c =
    let r = c.args.r.now in
    let held = c.args.held.now in
    let place : c.insertion_index-index.result ≡ insertion_index (λ (h : Held). h.key) r.key held =
    c.insertion_index-index.ensures.value
    ∙ ap (λ (row : Row). insertion_index (λ (h : Held). h.key) row.key held) (c.r.view_is) in
    let there : is_mine held r ≡ passes (is_held_at r) (slice_get held c.insertion_index-index.result) =
    mine_there r held c.requires ∙ ap (λ i. passes (is_held_at r) (slice_get held i)) (sym place) in
    sym (there ∙ sym c.is_mine_at.ensures ∙ c.if-is_mine_at.true)

pub returns-else-is_mine_at : goal.returns-else-is_mine_at
returns-else-is_mine_at c =
    let r = c.args.r.now in
    let held = c.args.held.now in
    let place : c.insertion_index-index.result ≡ insertion_index (λ (h : Held). h.key) r.key held =
    c.insertion_index-index.ensures.value
    ∙ ap (λ (row : Row). insertion_index (λ (h : Held). h.key) row.key held) (c.r.view_is) in
    let there : is_mine held r ≡ passes (is_held_at r) (slice_get held c.insertion_index-index.result) =
    mine_there r held c.requires ∙ ap (λ i. passes (is_held_at r) (slice_get held i)) (sym place) in
    sym (there ∙ sym c.is_mine_at.ensures ∙ c.if-is_mine_at.false)
