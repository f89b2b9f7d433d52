use Rattle.std.proofs.Common.{◌+◌, sym, ap, ◌∙◌}
use Rattle.kds_defs.proofs.LastPlaces.{last_number}
use Rattle.kds_defs.proofs.positions.position_after_numbers.Goals as goal

pub returns-in-Some : goal.returns-in-Some
returns-in-Some c = ap (λ n. n + 1) c.last-in-Some.view_is
    ∙ sym (last_number c.args.position c.args.numbers.now c.in-Some.last.now (sym c.in-Some.ensures.value))
