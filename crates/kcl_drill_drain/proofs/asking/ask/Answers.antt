use Rattle.std.proofs.Common.{◌++◌}
use Rattle.kcl_drill_drain.proofs.Leading.{leased_on}
use Rattle.kcl_drill_drain.proofs.asking.ask.Goals as goal

pub returns-clause-kept : goal.returns-clause-kept
returns-clause-kept g c = λ h has.
    leased_on (g.M.Machine.stands_for c.args.machine.now) (g.M.Machine.stands_for c.apply.new.self) c.args.by c.args.at
    h c.args.what c.apply.result c.requires.leases (c.ms-ms.ensures.range, c.requires.lawful) has
    (c.apply.ensures.answered (has.more ++ h) has.stands_now) (c.apply.ensures.kept (has.more ++ h) has.stands_now)
