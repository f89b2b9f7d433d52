use Rattle.std.proofs.Common.{ap, ◌∙◌, rules}
use Rattle.kcl_defs.specs.Plans.{after_rows, seen_at}
use Rattle.kcl_take.specs.Notes.{AreInOrder}
use Rattle.kcl_take.proofs.Sights.{noted_all_at}
use Rattle.kcl_take.proofs.observed.Observed.with_rows.Goals as goal

pub returns : goal.returns
returns c = λ key.
    let order : AreInOrder c.in-Ok.seen.items = search rules in
    ap (λ l. seen_at l key) c.in_ok-note_all.ensures.value
    ∙ noted_all_at c.args.rows.now c.args.now c.in-Ok.seen.items key order
    ∙ ap (λ l. after_rows c.args.rows.now c.args.now (seen_at l) key) (search rules)
