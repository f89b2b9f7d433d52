use Rattle.std.proofs.Common.{ap, sym, ◌∙◌}
use Rattle.kds_defs.specs.declared.reply.Row.{Row}
use Rattle.kds_defs.specs.Leases.{is_end}
use Rattle.kcl_drill_drain.proofs.Beginning.{at_end, end_same}
use Rattle.kcl_drill_drain.proofs.rows.drain_row.Goals as goal

pub returns-then-is_end-clause-ok : goal.returns-then-is_end-clause-ok
returns-then-is_end-clause-ok g c = λ w spot same seen l.
    at_end w c.args.at spot (c.drain_laws.ensures w.history c.args.at spot.can)
    (g.M.Machine.stands_for c.args.machine.now) c.args.by c.in-Some.row (seen ∙ c.in-Some.is)
    (sym (ap (λ (r : Row). is_end r.checkpoint) c.row.view_is) ∙ sym (end_same c.row.inside.checkpoint)
    ∙ sym c.is_end.ensures ∙ c.if-is_end.true) l
