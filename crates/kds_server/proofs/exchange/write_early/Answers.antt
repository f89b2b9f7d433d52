use Rattle.std.proofs.Common.{sym, subst}
use Rattle.std.specs.Option.{IfSome}
use Rattle.kds_ends.specs.declared.status.Status.{Status}
use Rattle.kds_server.specs.Texts.{Tells}
use Rattle.kds_server.proofs.Ends.{flushed, tells_part}
use Rattle.kds_server.proofs.exchange.write_early.Goals as goal

pub returns-in-Ok-clause-goes_on : goal.returns-in-Ok-clause-goes_on
returns-in-Ok-clause-goes_on g c = λ left all start is_given is_told r.
    flushed all left c.args.session.now c.flush.new.session start (g.K.Sink.held c.args.out.now)
    (g.K.Sink.held c.flush.new.out) is_given is_told r c.in-Ok.ensures.stands c.in-Ok.ensures.written

pub returns-in-Err-clause-ended : goal.returns-in-Err-clause-ended
returns-in-Err-clause-ended g c = λ left all start is_given is_told r.
    let now = g.K.Sink.held c.flush.new.out in
    subst (λ (s : Status). IfSome all (λ bytes. Tells s bytes left is_given is_told start now))
    (sym c.in-Err.ensures.err.0)
    (tells_part c.first_part.ensures all left c.args.session.now is_given is_told start (g.K.Sink.held c.args.out.now)
    now r c.in-Err.ensures.err.1)
