use Rattle.std.proofs.Common.{sym, subst}
use Rattle.kds_defs.specs.declared.command.Command.{Command}
use Rattle.kcl_world.specs.Standing.{Leads, world}
use Rattle.kcl_world.proofs.answer.lease_answer.Goals as goal

pub returns-in-Give-clause-leads : goal.returns-in-Give-clause-leads
returns-in-Give-clause-leads c =
    let a = c.args in
    subst (λ (command : Command).
    Leads (world a.service.now a.table.now a.book.now.tenures)
    (world a.service.now a.table.now c.give.new.book.tenures) a.by command c.give.result) (sym c.in-Give.is)
    (c.give.ensures a.table.now)

pub returns-in-CutLease-clause-leads : goal.returns-in-CutLease-clause-leads
returns-in-CutLease-clause-leads c =
    let a = c.args in
    subst (λ (command : Command).
    Leads (world a.service.now a.table.now a.book.now.tenures)
    (world a.service.now c.cut.new.table a.book.now.tenures) a.by command c.cut.result) (sym c.in-CutLease.is)
    (c.cut.ensures a.by a.book.now.tenures)
