use Rattle.std.proofs.Common.{◌∙◌, sym, ap, None}
use Rattle.kds_session.specs.States.{SessionState}
use Rattle.kds_session.specs.Steps.{IsFree, with_progress}
use Rattle.kds_session.proofs.Stands.{next_by, read_out, read_out_fed, fewer_by}
use Rattle.kds_session.proofs.Texts.{next_is}
use Rattle.kds_session.proofs.session.Session.next.Goals as goal

pub returns-then-not-is_live-clause-exact : goal.returns-then-not-is_live-clause-exact
returns-then-not-is_live-clause-exact c = λ past st.
    next_is c.one_division.ensures None c.args.self.now past
    (st, (λ live. absurd (cc (sym c.if-not-is_live.true ∙ c.is_live.ensures.1 live)), c.requires))

pub returns-clause-given : goal.returns-clause-given
returns-clause-given c =
    let free : IsFree c.args.self.now =
    record { live = c.is_live.ensures.0 c.if-not-is_live.false; free = c.requires } in
    next_by c.args.self.now _ c.as_slice.result.now c.new-progress.result c.to_command.new.self c.in_ok-what.what
    (c.self.view_is ∙ c.take_head-head.ensures.same) c.as_slice.ensures c.new-progress.ensures free
    c.in_ok-what.ensures.given c.commit.new.self (c.in_ok-commit.ensures.ok
    ∙ ap (λ (s : SessionState). with_progress s c.to_command.new.self) c.take_head-head.ensures.same)

pub returns-clause-exact : goal.returns-clause-exact
returns-clause-exact c = λ past st.
    let free : IsFree c.args.self.now =
    record { live = c.is_live.ensures.0 c.if-not-is_live.false; free = c.requires } in
    next_is c.one_division.ensures c.in_ok-what.what c.commit.new.self past
    (next_by c.args.self.now _ c.as_slice.result.now c.new-progress.result c.to_command.new.self c.in_ok-what.what
    (c.self.view_is ∙ c.take_head-head.ensures.same) c.as_slice.ensures c.new-progress.ensures free
    c.in_ok-what.ensures.given c.commit.new.self (c.in_ok-commit.ensures.ok
    ∙ ap (λ (s : SessionState). with_progress s c.to_command.new.self) c.take_head-head.ensures.same) past st)

pub returns-clause-out : goal.returns-clause-out
returns-clause-out c =
    read_out c.found_within_limits.ensures c.in_ok-what.what c.args.self.now _ c.commit.new.self c.as_slice.result.now
    c.to_command.new.self (c.self.view_is ∙ c.take_head-head.ensures.same) c.as_slice.ensures
    c.in_ok-what.ensures.out (c.in_ok-commit.ensures.ok
    ∙ ap (λ (s : SessionState). with_progress s c.to_command.new.self) c.take_head-head.ensures.same)

pub returns-clause-fewer : goal.returns-clause-fewer
returns-clause-fewer c =
    let free : IsFree c.args.self.now =
    record { live = c.is_live.ensures.0 c.if-not-is_live.false; free = c.requires } in
    fewer_by c.in_ok-what.what c.args.self.now _ c.commit.new.self c.as_slice.result.now c.new-progress.result
    c.to_command.new.self (c.self.view_is ∙ c.take_head-head.ensures.same) c.as_slice.ensures c.new-progress.ensures
    free c.in_ok-what.ensures.fewer (c.in_ok-commit.ensures.ok
    ∙ ap (λ (s : SessionState). with_progress s c.to_command.new.self) c.take_head-head.ensures.same)

pub returns-clause-feed_limit : goal.returns-clause-feed_limit
returns-clause-feed_limit c = read_out_fed c.in_ok-what.what c.commit.new.self (returns-clause-out c)
