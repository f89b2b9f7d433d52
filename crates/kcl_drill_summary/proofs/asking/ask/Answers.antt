use Rattle.std.proofs.Common.{◌++◌}
use Rattle.kcl_drill_summary.proofs.ReadLemmas.{asked, has_read}
use Rattle.kcl_drill_summary.proofs.asking.ask.Goals as goal

pub returns-clause-ok : goal.returns-clause-ok
returns-clause-ok g c = λ h has.
    asked (g.M.Machine.stands_for c.args.machine.now) (g.M.Machine.stands_for c.apply.new.self) c.args.by c.args.at h
    c.args.what c.apply.result has
    (c.apply.ensures.answered (has.more ++ h) has.stands_now)

pub returns-clause-read : goal.returns-clause-read
returns-clause-read g c = λ h has.
    has_read (g.M.Machine.stands_for c.args.machine.now) (g.M.Machine.stands_for c.apply.new.self) c.args.by c.args.at h
    c.args.what c.apply.result c.requires.reads has
    (c.apply.ensures.answered (has.more ++ h) has.stands_now) (c.apply.ensures.kept (has.more ++ h) has.stands_now)
