use Rattle.std.proofs.Common.{is_some, ap, sym, ◌∙◌}
use Rattle.kds_defs.specs.Keys.{same_key}
use Rattle.kcl_defs.proofs.PlaceLemmas.{any_from, anywhere}
use Rattle.kcl_defs.proofs.keyed.index_of.Goals as goal

pub returns-then-stands_at : goal.returns-then-stands_at
returns-then-stands_at g c =
    let key_of = g.T.Keyed.key_of in
    sym (any_from (λ x. same_key (key_of x) c.args.key.now) c.args.items.now c.args.hint
    (sym c.stands_at.ensures ∙ c.if-stands_at.true))

pub returns-else-rising : goal.returns-else-rising
returns-else-rising g c =
    let key_of = g.T.Keyed.key_of in
    ap is_some c.first_index.ensures ∙ anywhere (λ x. same_key (key_of x) c.args.key.now) c.args.items.now
