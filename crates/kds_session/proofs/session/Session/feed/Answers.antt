use Rattle.std.proofs.Common.{sym, ap, subst, List, ℕ, ◌≤◌, length}
use Rattle.kds_session.specs.States.{SessionState}
use Rattle.kds_session.specs.Standing.{StandsFor}
use Rattle.kds_session.specs.Next.{feed_limit_of}
use Rattle.kds_session.proofs.Readings.{kept_more, fed_fits}
use Rattle.kds_session.proofs.Stands.{feeds}
use Rattle.kds_session.proofs.session.Session.feed.Goals as goal

pub returns-clause-stands : goal.returns-clause-stands
returns-clause-stands c = λ past st.
    feeds _ past c.args.bytes.now (subst (λ (s : SessionState). StandsFor s past) (sym c.self.view_is) st) _
    (ap (λ (u : List ℕ). let y : SessionState = record {
      unread = u;
      output = c.self.inside.output;
      left = c.self.inside.left;
      standing = c.self.inside.standing;
      waiting = c.self.inside.waiting;
    } in
    y) c.in_ok-extend_from_slice.ensures.ok)

pub invariant_of-self-2 : goal.invariant_of-self-2
invariant_of-self-2 c = (
  kept_more c.decided_stays.ensures _ c.args.bytes.now _ _ c.in_ok-extend_from_slice.ensures.ok c.self.invariant.0,
  fed_fits _ c.args.bytes.now _ c.in_ok-extend_from_slice.ensures.ok
      (subst (λ (s : SessionState). length c.args.bytes.now ≤ feed_limit_of s) (sym c.self.view_is) c.requires)
      c.self.invariant.1,
)
