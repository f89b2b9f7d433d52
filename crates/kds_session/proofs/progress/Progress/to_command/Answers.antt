use Rattle.std.proofs.Common.{subst}
use Rattle.kds_session.specs.declared.progress.Step.{Step}
use Rattle.kds_session.specs.Steps.{IsStepped, IsPlainly, read_state}
use Rattle.kds_session.proofs.Stands.{nearer_then, nearer_less}
use Rattle.kds_session.proofs.progress.Progress.to_command.Goals as goal

pub returns-in-Stop-clause-given : goal.returns-in-Stop-clause-given
returns-in-Stop-clause-given c = λ past st.
    subst (λ (s : Step). IsStepped s (read_state c.args.bytes.now c.read_message.new.self) past) c.in-Stop.is
    (c.in_ok-read_message.ensures.steps past (c.loop-what.invariant.stands past st))

pub returns-in-Stop-clause-out : goal.returns-in-Stop-clause-out
returns-in-Stop-clause-out c = λ none.
    let plain = subst (λ (s : Step).
    IsPlainly s (read_state c.args.bytes.now c.loop-what.self)
    (read_state c.args.bytes.now c.read_message.new.self)) c.in-Stop.is c.in_ok-read_message.ensures.plain in
    plain.0

pub returns-in-Stop-clause-fewer : goal.returns-in-Stop-clause-fewer
returns-in-Stop-clause-fewer c =
    let plain = subst (λ (s : Step).
    IsPlainly s (read_state c.args.bytes.now c.loop-what.self)
    (read_state c.args.bytes.now c.read_message.new.self)) c.in-Stop.is c.in_ok-read_message.ensures.plain in
    nearer_then (read_state c.args.bytes.now c.args.self.now) (read_state c.args.bytes.now c.loop-what.self)
    (read_state c.args.bytes.now c.read_message.new.self) c.loop-what.invariant.nearer plain.1

pub returns-in-Command-clause-fewer : goal.returns-in-Command-clause-fewer
returns-in-Command-clause-fewer c =
    let plain = subst (λ (s : Step).
    IsPlainly s (read_state c.args.bytes.now c.loop-what.self)
    (read_state c.args.bytes.now c.read_message.new.self)) c.in-Command.is c.in_ok-read_message.ensures.plain in
    nearer_less (read_state c.args.bytes.now c.args.self.now) (read_state c.args.bytes.now c.loop-what.self)
    (read_state c.args.bytes.now c.read_message.new.self) c.loop-what.invariant.nearer plain.2
