use Rattle.std.proofs.Common.{arith, ◌∙◌, ◌<◌, ◌≤◌}
use Rattle.kcl_drill_drain.proofs.ReadLemmas.{ends, goes_on, stops}
use Rattle.kcl_drill_drain.proofs.reading.finish_or_continue.Goals as goal

pub returns-in_ok-mark-clause-ok : goal.returns-in_ok-mark-clause-ok
returns-in_ok-mark-clause-ok g c = λ w x spot ready same ended is l.
    ends w c.args.at spot (c.drain_laws.ensures w.history c.args.at spot.can)
    (g.M.Machine.stands_for c.args.machine.now) (g.M.Machine.stands_for c.mark.new.machine) c.args.by _ c.args.held
    x
    c.in_ok-mark.ensures.ok ready (ended ∙ c.if-ended.true) is l

pub returns-then-held-position-clause-ok : goal.returns-then-held-position-clause-ok
returns-then-held-position-clause-ok g c = λ w x spot ready same ended is l.
    let above : x.position < c.args.held.position = omega (arith, same, c.if-held-position.true) in
    goes_on w c.args.at spot (c.drain_laws.ensures w.history c.args.at spot.can)
    (g.M.Machine.stands_for c.args.machine.now) c.args.by c.args.held x ready above is l

pub returns-else-held-position-clause-ok : goal.returns-else-held-position-clause-ok
returns-else-held-position-clause-ok g c = λ w x spot ready same ended is l.
    let le : c.args.held.position ≤ x.position = omega (arith, same, c.if-held-position.false) in
    stops w c.args.at spot (c.drain_laws.ensures w.history c.args.at spot.can)
    (g.M.Machine.stands_for c.args.machine.now) c.args.by c.args.held x ready le (ended ∙ c.if-ended.false) is l
