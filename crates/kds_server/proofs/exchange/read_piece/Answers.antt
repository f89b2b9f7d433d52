use Rattle.std.proofs.Common.{◌++◌, ℕ, List, length, ap, sym, ◌∙◌, arith, rules}
use Rattle.std.proofs.lemmas.List.{length-append}
use Rattle.std.proofs.KnownBytes.{Consumes-trans}
use Rattle.kds_session.specs.Standing.{traffic}
use Rattle.kds_session.specs.States.{SessionState}
use Rattle.kds_server.proofs.exchange.read_piece.Goals as goal

pub returns-in-Ok-feed : goal.returns-in-Ok-feed
returns-in-Ok-feed g c = record {
  ok = λ held all start is_given is_told r.
      let piece = c.split_at.result.0.now in
      let bytes = rw (← c.split_at.ensures.front) at c.in-Ok.ensures.bytes.0 in record {
        fed = r.fed ++ piece;
        sent = r.sent;
        taken = Consumes-trans all _ _ r.fed piece r.taken bytes;
        stands = c.in-Ok-feed.ensures.stands (traffic r.fed is_given is_told r.sent) r.stands;
        written = r.written;
      };
  ends = search rules;
  grows = λ live more.
      let added = c.in-Ok-feed.ensures.added live in
      let unread = ap (λ (s : SessionState). s.unread) added in (
        added ∙ sym (ap (λ (bytes : List ℕ). record c.args.session.now { unread = bytes }) unread),
        omega (
          arith,
          ap (λ (bytes : List ℕ). length bytes) unread,
          length-append c.args.session.now.unread c.split_at.result.0.now,
        ),
      );
  err = search rules;
  kept = search rules;
  kinds = search rules;
  later = search rules;
  read = search rules;
}
