use Rattle.std.proofs.Common.{◌∙◌, sym, ap, subst, rules, Err}
use Rattle.std.specs.Option.{IfSome}
use Rattle.std.proofs.lemmas.Option.{same_Some}
use Rattle.kds_ends.specs.declared.status.Status.{Status}
use Rattle.kds_session.specs.Standing.{end_of}
use Rattle.kds_server.specs.Texts.{Tells, IsAnswerStatus}
use Rattle.kds_server.proofs.Ends.{flushed, tells_part, tells_status, tells_over, tells_stop, kind_at, end_not_read}
use Rattle.kds_server.proofs.Ends.{end_not_write, some_none}
use Rattle.kds_server.proofs.exchange.exchange.Goals as goal

pub returns-in-Err-clause-ended : goal.returns-in-Err-clause-ended
returns-in-Err-clause-ended g c = λ all start is_given is_told r.
    let left = g.S.Source.left c.args.input.now in
    let now = g.K.Sink.held c.flush.new.out in
    subst (λ (s : Status). IfSome all (λ bytes. Tells s bytes left is_given is_told start now))
    (sym c.in-Err.ensures.err.0)
    (tells_part c.first_part.ensures all left c.args.session.now is_given is_told start (g.K.Sink.held c.args.out.now)
    now r c.in-Err.ensures.err.1)

pub returns-in-Ok-true-clause-goes_on : goal.returns-in-Ok-true-clause-goes_on
returns-in-Ok-true-clause-goes_on g c = λ none all start is_given is_told r.
    c.in-Ok-true.ensures.ok (g.K.Sink.held c.flush.new.out) all start is_given is_told
    (flushed all (g.S.Source.left c.args.input.now) c.args.session.now c.flush.new.session start
    (g.K.Sink.held c.args.out.now) (g.K.Sink.held c.flush.new.out) is_given is_told r c.in-Ok.ensures.stands
    c.in-Ok.ensures.written)

pub returns-in-Ok-false-clause-ended : goal.returns-in-Ok-false-clause-ended
returns-in-Ok-false-clause-ended g c = λ all start is_given is_told r.
    let now = g.K.Sink.held c.flush.new.out in
    let reads = c.in-Ok-false.ensures.ok now all start is_given is_told
    (flushed all (g.S.Source.left c.args.input.now) c.args.session.now c.flush.new.session start
    (g.K.Sink.held c.args.out.now) (g.K.Sink.held c.flush.new.out) is_given is_told r c.in-Ok.ensures.stands
    c.in-Ok.ensures.written) in
    let ends = c.in-Ok-false.ensures.ends c.in-Ok-false.field-0-test in
    tells_status c.whole_text.ensures c.ending.result all (g.S.Source.left c.read_next.new.input)
    c.read_next.new.session c.flush.new.session c.args.session.now is_given is_told start now reads c.requires.quiet
    c.in-Ok.ensures.same ends.1 ends.0 c.ending.ensures

pub returns-in-Err-read_next-clause-ended : goal.returns-in-Err-read_next-clause-ended
returns-in-Err-read_next-clause-ended g c = λ all start is_given is_told r.
    tells_stop c.whole_text.ensures c.first_part.ensures c.in-Err-read_next.status c.in-Err-read_next.ensures.kinds
    all (g.S.Source.left c.args.input.now) (g.S.Source.left c.read_next.new.input) c.flush.new.session
    c.args.session.now is_given is_told start (g.K.Sink.held c.flush.new.out)
    (flushed all (g.S.Source.left c.args.input.now) c.args.session.now c.flush.new.session start
    (g.K.Sink.held c.args.out.now) (g.K.Sink.held c.flush.new.out) is_given is_told r c.in-Ok.ensures.stands
    c.in-Ok.ensures.written)
    c.requires.quiet c.in-Ok.ensures.same (λ e. c.in-Err-read_next.ensures.kept (ap Err e))

pub returns-in_default : goal.returns-in_default
returns-in_default g c = record {
  goes_on = λ e. absurd (some_none _ e);
  ended = λ all start is_given is_told r.
      tells_over c.whole_text.ensures c.nothing_follows.ensures c.ending-in_default.result all
      (g.S.Source.left c.args.input.now) c.flush.new.session c.args.session.now is_given is_told start
      (g.K.Sink.held c.flush.new.out)
      (flushed all (g.S.Source.left c.args.input.now) c.args.session.now c.flush.new.session start
      (g.K.Sink.held c.args.out.now) (g.K.Sink.held c.flush.new.out) is_given is_told r c.in-Ok.ensures.stands
      c.in-Ok.ensures.written)
      c.requires.quiet c.in-Ok.ensures.same (λ live. c.in_default.not-Live (c.standing.ensures ∙ live))
      c.ending-in_default.ensures;
  free = λ e. absurd (some_none _ e);
  empty = λ e. absurd (some_none _ e);
  grows = λ e. absurd (some_none _ e);
  source_later = search rules;
  sink_later = c.in-Ok.ensures.later;
  read = λ e. absurd (end_not_read (end_of c.flush.new.session) (sym c.ending-in_default.ensures ∙ same_Some _ _ e));
  write = λ e. absurd (end_not_write (end_of c.flush.new.session) (sym c.ending-in_default.ensures ∙ same_Some _ _ e));
  kinds = subst (λ (s : Status). IsAnswerStatus s) (sym c.ending-in_default.ensures)
      (kind_at (end_of c.flush.new.session));
}
