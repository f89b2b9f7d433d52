use Rattle.std.proofs.Common.{◌+◌, sym, ap, ◌∙◌}
use Rattle.kds_defs.proofs.LastPlaces.{last_record}
use Rattle.kds_defs.proofs.positions.position_after.Goals as goal

pub returns-in-Some : goal.returns-in-Some
returns-in-Some c = ap (λ n. n + 1) c.seq.view_is
    ∙ sym (last_record c.args.position c.args.batch.now c.in-Some.item.now (sym c.in-Some.ensures.value))
