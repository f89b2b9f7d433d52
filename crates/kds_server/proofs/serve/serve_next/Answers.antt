use Rattle.std.proofs.Common.{◌++◌, ◌∷◌, [], subst, Option, inl, refl}
use Rattle.std.proofs.lemmas.Option.{IfSome_then}
use Rattle.kds_defs.specs.declared.command.Command.{Command}
use Rattle.kds_session.specs.Standing.{traffic}
use Rattle.kds_session.specs.Next.{IsNext}
use Rattle.kds_server.specs.Steps.{Reads}
use Rattle.kds_server.proofs.Ends.{tells_so_far, asks_none}
use Rattle.kds_server.proofs.serve.serve_next.Goals as goal

pub returns-in-Ok-write_early-clause-goes_on : goal.returns-in-Ok-write_early-clause-goes_on
returns-in-Ok-write_early-clause-goes_on g c = λ none first all is_before start r.
    let next = subst (λ (o : Option Command).
    IsNext o c.next.new.self (traffic r.reads.fed r.given r.told r.reads.sent)) c.in-Ok-Some.field-0-is
    (c.in-Ok-Some.ensures.given (traffic r.reads.fed r.given r.told r.reads.sent) r.reads.stands) in
    let reads : Reads all (g.S.Source.left c.args.input.now) c.next.new.self start (g.K.Sink.held c.args.out.now)
    (r.given ++ c.in-Ok-Some.what ∷ []) r.told =
    record {
      fed = r.reads.fed;
      sent = r.reads.sent;
      taken = r.reads.taken;
      stands = next.0;
      written = r.reads.written;
    } in
    let run = c.in-Ok.ensures.goes_on first all _ is_before start _ r.given r.told r.taken reads in
    record {
      given = run.given;
      told = run.told;
      reads = c.in-Ok-write_early.ensures.goes_on _ all start run.given run.told run.reads;
      taken = run.taken;
    }

pub returns-in-Err-write_early-clause-ended : goal.returns-in-Err-write_early-clause-ended
returns-in-Err-write_early-clause-ended g c = λ first all is_before start r.
    let next = subst (λ (o : Option Command).
    IsNext o c.next.new.self (traffic r.reads.fed r.given r.told r.reads.sent)) c.in-Ok-Some.field-0-is
    (c.in-Ok-Some.ensures.given (traffic r.reads.fed r.given r.told r.reads.sent) r.reads.stands) in
    let reads : Reads all (g.S.Source.left c.args.input.now) c.next.new.self start (g.K.Sink.held c.args.out.now)
    (r.given ++ c.in-Ok-Some.what ∷ []) r.told =
    record {
      fed = r.reads.fed;
      sent = r.reads.sent;
      taken = r.reads.taken;
      stands = next.0;
      written = r.reads.written;
    } in
    let run = c.in-Ok.ensures.goes_on first all _ is_before start _ r.given r.told r.taken reads in record {
      given = run.given;
      told = run.told;
      between = g.C.Clock.moments c.make_turn.new.clock;
      taken = run.taken;
      asked = asks_none c.in-Err-write_early.status _;
      tells = c.in-Err-write_early.ensures.ended _ all start run.given run.told run.reads;
    }

pub returns-in-Err-make_turn-clause-ended : goal.returns-in-Err-make_turn-clause-ended
returns-in-Err-make_turn-clause-ended g c = λ first all is_before start r.
    let next = subst (λ (o : Option Command).
    IsNext o c.next.new.self (traffic r.reads.fed r.given r.told r.reads.sent)) c.in-Ok-Some.field-0-is
    (c.in-Ok-Some.ensures.given (traffic r.reads.fed r.given r.told r.reads.sent) r.reads.stands) in
    let reads : Reads all (g.S.Source.left c.args.input.now) c.next.new.self start (g.K.Sink.held c.args.out.now)
    (r.given ++ c.in-Ok-Some.what ∷ []) r.told =
    record {
      fed = r.reads.fed;
      sent = r.reads.sent;
      taken = r.reads.taken;
      stands = next.0;
      written = r.reads.written;
    } in
    c.in-Err-make_turn.ensures.err first all _ is_before start _ r.given r.told r.taken reads

pub returns-in-Ok-None-clause-goes_on : goal.returns-in-Ok-None-clause-goes_on
returns-in-Ok-None-clause-goes_on g c = λ none first all is_before start r.
    let next = subst (λ (o : Option Command).
    IsNext o c.next.new.self (traffic r.reads.fed r.given r.told r.reads.sent)) c.in-Ok-None.field-0-is
    (c.in-Ok-None.ensures.given (traffic r.reads.fed r.given r.told r.reads.sent) r.reads.stands) in
    let reads : Reads all (g.S.Source.left c.args.input.now) c.next.new.self start (g.K.Sink.held c.args.out.now)
    r.given r.told = record {
      fed = r.reads.fed;
      sent = r.reads.sent;
      taken = r.reads.taken;
      stands = next.0;
      written = r.reads.written;
    } in
    record {
      given = r.given;
      told = r.told;
      reads = c.exchange.ensures.goes_on none all start r.given r.told reads;
      taken = r.taken;
    }

pub returns-in-Ok-None-clause-ended : goal.returns-in-Ok-None-clause-ended
returns-in-Ok-None-clause-ended g c =
    IfSome_then c.exchange.result c.exchange.ensures.ended (λ s t first all is_before start r.
    let next = subst (λ (o : Option Command).
    IsNext o c.next.new.self (traffic r.reads.fed r.given r.told r.reads.sent)) c.in-Ok-None.field-0-is
    (c.in-Ok-None.ensures.given (traffic r.reads.fed r.given r.told r.reads.sent) r.reads.stands) in
    let reads : Reads all (g.S.Source.left c.args.input.now) c.next.new.self start (g.K.Sink.held c.args.out.now)
    r.given r.told = record {
      fed = r.reads.fed;
      sent = r.reads.sent;
      taken = r.reads.taken;
      stands = next.0;
      written = r.reads.written;
    } in
    record {
      given = r.given;
      told = r.told;
      between = g.C.Clock.moments c.args.clock.now;
      taken = r.taken;
      asked = asks_none s _;
      tells = t all start r.given r.told reads;
    })

pub returns-in-Err-clause-ended : goal.returns-in-Err-clause-ended
returns-in-Err-clause-ended g c = λ first all is_before start r. record {
  given = r.given;
  told = r.told;
  between = g.C.Clock.moments c.args.clock.now;
  taken = r.taken;
  asked = inl refl;
  tells = tells_so_far c.first_part.ensures all _ c.args.session.now r.given r.told start _ r.reads;
}
