use Rattle.kcl_drill_run.proofs.run.find_text.Goals as goal

pub returns : goal.returns
returns g c =
    let drilled = c.in_ok-world.ensures in
    c.drained_text.ensures.text c.args.number c.args.records drilled.turns drilled.stands drilled.drill drilled.few
    drilled.horizon
