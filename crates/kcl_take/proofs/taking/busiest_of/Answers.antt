use Rattle.std.proofs.Common.{◌≡◌, ap, ◌∙◌}
use Rattle.kcl_defs.specs.Plans.{busiest, load_of}
use Rattle.kcl_take.specs.Loads.{load_in}
use Rattle.kcl_take.proofs.taking.busiest_of.Goals as goal

pub returns : goal.returns
returns c =
    let same : load_in c.in_ok-loads.loads ≡ load_of c.args.rows.now = λ i worker. c.in_ok-loads.ensures worker i in
    c.busiest.ensures ∙ ap (λ load. busiest load c.args.workers.now) same
