use Rattle.std.proofs.Common.{sym}
use Rattle.kcl_script.specs.Line.{line_in}
use Rattle.kcl_sim.proofs.Judging.{breaks, takes}
use Rattle.kcl_sim.proofs.sim.SimTaker.take.Goals as goal

pub returns-in-Err-clause-breaks : goal.returns-in-Err-clause-breaks
returns-in-Err-clause-breaks g c =
    breaks g.K.Keep.wanted g.K.Keep.text c.grows.ensures c.args.self.now _ c.args.text.now (line_in c.in-Some.line)
    (sym c.in-Some.ensures) c.in-Err.ensures.breaks

pub returns-in-Ok-clause-goes : goal.returns-in-Ok-clause-goes
returns-in-Ok-clause-goes g c = λ more.
    takes g.K.Keep.wanted g.K.Keep.text c.args.self.now _ c.args.text.now (line_in c.in-Some.line) c.args.to.now _
    (sym c.in-Some.ensures) c.in-Ok.ensures.goes
