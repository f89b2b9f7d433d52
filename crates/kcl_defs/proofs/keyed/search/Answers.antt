use Rattle.std.proofs.Common.{ap, sym, ◌∙◌}
use Rattle.std.specs.Prelude.{slice_get}
use Rattle.kds_defs.specs.Keys.{same_key}
use Rattle.kcl_defs.specs.Places.{passes}
use Rattle.kcl_defs.proofs.PlaceLemmas.{any_there}
use Rattle.kcl_defs.proofs.keyed.search.Goals as goal

pub returns-then-stands_at : goal.returns-then-stands_at
returns-then-stands_at g c =
    let key = c.args.key.now in
    let xs = c.args.items.now in
    let key_of = g.T.Keyed.key_of in
    sym (any_there key_of key (λ x. same_key (key_of x) key) (λ x same. same) xs c.requires
    ∙ ap (λ i. passes (λ x. same_key (key_of x) key) (slice_get xs i)) (sym c.insertion_index-index.ensures.value)
    ∙ sym c.stands_at.ensures ∙ c.if-stands_at.true)

pub returns-else-stands_at : goal.returns-else-stands_at
returns-else-stands_at g c =
    let key = c.args.key.now in
    let xs = c.args.items.now in
    let key_of = g.T.Keyed.key_of in
    sym (any_there key_of key (λ x. same_key (key_of x) key) (λ x same. same) xs c.requires
    ∙ ap (λ i. passes (λ x. same_key (key_of x) key) (slice_get xs i)) (sym c.insertion_index-index.ensures.value)
    ∙ sym c.stands_at.ensures ∙ c.if-stands_at.false)
