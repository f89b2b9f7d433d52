use Rattle.std.proofs.Common.{sym}
use Rattle.kcl_sim.proofs.Stepping.{idle_command, next_command}
use Rattle.kcl_sim.proofs.workers.next_command.Goals as goal

pub returns-then-idle-clause-is : goal.returns-then-idle-clause-is
returns-then-idle-clause-is c = λ e s. sym (idle_command c.args.worker.now e c.args.now (sym c.if-idle.ensures) s)

pub returns-else-idle-clause-is : goal.returns-else-idle-clause-is
returns-else-idle-clause-is c = λ e s.
    sym (next_command c.args.worker.now c.next.new.self e c.args.now c.next.result (sym c.if-idle.ensures)
    c.next.ensures.same.made c.next.ensures.same.maker c.next.ensures.next s).0
