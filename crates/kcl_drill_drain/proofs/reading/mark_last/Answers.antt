use Rattle.std.proofs.Common.{sym, ◌∙◌}
use Rattle.kcl_drill_drain.proofs.ReadLemmas.{marks_some}
use Rattle.kcl_drill_drain.proofs.reading.mark_last.Goals as goal

pub returns-in-Some-clause-ok : goal.returns-in-Some-clause-ok
returns-in-Some-clause-ok g c = λ w x spot ready is last l.
    marks_some w c.args.at spot (c.drain_laws.ensures w.history c.args.at spot.can)
    (g.M.Machine.stands_for c.args.machine.now) (g.M.Machine.stands_for c.mark.new.machine) c.args.by c.in-Some.q
    c.args.held.now c.mark.result x
    c.mark.ensures.ok ready is (sym c.in-Some.is ∙ last) l
