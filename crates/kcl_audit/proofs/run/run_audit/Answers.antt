use Rattle.std.proofs.Common.{subst}
use Rattle.kcl_audit.specs.Audited.{TellsAudit}
use Rattle.kcl_audit.proofs.Completing.{completes, rose_since}
use Rattle.kcl_audit.proofs.Safely.{no_journal, safely, some_so}
use Rattle.kcl_audit.proofs.run.run_audit.Goals as goal

pub returns-clause-told : goal.returns-clause-told
returns-clause-told g c =
    some_so (g.S.Source.left c.args.input.now) c.read_lines-outcome.ensures.told
    (λ bytes t. c.end_audit.ensures.told bytes _ _ t)

pub returns-clause-safe : goal.returns-clause-safe
returns-clause-safe g c = λ is.
    let held = g.K.Sink.held c.args.out.now in
    let now = g.K.Sink.held c.end_audit.new.out in
    some_so (g.S.Source.left c.args.input.now) c.read_lines-outcome.ensures.told
    (λ bytes t. safely c.legal.ensures c.step.ensures.safe bytes held now
    (subst (λ s. TellsAudit s bytes held now) is (c.end_audit.ensures.told bytes _ _ t)))

pub returns-clause-legal : goal.returns-clause-legal
returns-clause-legal g c = λ is.
    let held = g.K.Sink.held c.args.out.now in
    let now = g.K.Sink.held c.end_audit.new.out in
    some_so (g.S.Source.left c.args.input.now) c.read_lines-outcome.ensures.told
    (λ bytes t. no_journal c.complete.ensures.sounds bytes held now
    (subst (λ s. TellsAudit s bytes held now) is (c.end_audit.ensures.told bytes _ _ t)))

pub returns-clause-complete : goal.returns-clause-complete
returns-clause-complete g c = λ read write.
    completes c.end_audit.result (g.S.Source.left c.args.input.now) _ _
    (λ is. read (c.read_lines-outcome.ensures.read (c.end_audit.ensures.read is)))
    (λ is. write (rose_since c.read_lines-outcome.result _ _ _ c.read_lines-outcome.ensures.later
    c.end_audit.ensures.later c.read_lines-outcome.ensures.write
    (c.end_audit.ensures.write is)))
    (returns-clause-told g c)
