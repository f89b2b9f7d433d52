use Rattle.std.proofs.Common.{◌+◌, ◌∙◌, sym, ap, take, drop, subst, inl, refl, Result}
use Rattle.std.specs.Result.{IfOk}
use Rattle.kds_defs.specs.declared.command.Command.{Command}
use Rattle.kds_json_members.specs.declared.problem.Fault.{Fault}
use Rattle.kds_json.specs.Asked.{IsRequest}
use Rattle.kds_reply.specs.Replies.{fault_reply}
use Rattle.kds_session.specs.Text.{requested, answered}
use Rattle.kds_session.specs.States.{waiting_for}
use Rattle.kds_session.specs.declared.progress.Progress.{Progress}
use Rattle.kds_session.specs.declared.state.Standing.TheVariants.{Closed}
use Rattle.kds_session.specs.Steps.{read_state}
use Rattle.kds_session.proofs.Readings.{HeadLaws}
use Rattle.kds_session.proofs.Stands.{command_given, fault_goes, fault_closes, command_state, fault_state, closed_state}
use Rattle.kds_session.proofs.Stands.{waits_for, less_asked, less_ended}
use Rattle.kds_session.proofs.progress.Progress.message.Goals as goal

pub returns-in-Ok-clause-steps : goal.returns-in-Ok-clause-steps
returns-in-Ok-clause-steps c = λ past st.
    let laws : HeadLaws =
    record {
      one = c.one_finding.ensures;
      stays = c.decided_stays.ensures;
      limits = c.found_within_limits.ensures;
      none = c.no_bytes_need_more.ensures;
    } in
    let head = c.args.head.now in
    let asks = ap (λ b. requested head.operation head.json b)
    (ap (λ u. take head.body (drop head.length u)) (sym c.rest_after.ensures) ∙ sym c.body_of.ensures)
    ∙ sym c.in_ok-what.ensures.value ∙ c.in-Ok.is in
    command_given laws (read_state c.args.bytes.now c.args.self.now) past head c.closes_after-close.result c.in-Ok.what
    st
    c.requires.free c.closes_after-close.ensures c.requires.whole asks _
    (command_state c.args.bytes.now c.args.self.now c.consume_message.new.self (head.length + head.body) _
    (waiting_for c.closes_after-close.result) c.consume_message.ensures c.waiting_for-self.ensures)

pub returns-then-close-clause-steps : goal.returns-then-close-clause-steps
returns-then-close-clause-steps c = λ past st.
    let laws : HeadLaws =
    record {
      one = c.one_finding.ensures;
      stays = c.decided_stays.ensures;
      limits = c.found_within_limits.ensures;
      none = c.no_bytes_need_more.ensures;
    } in
    let head = c.args.head.now in
    let asks = ap (λ b. requested head.operation head.json b)
    (ap (λ u. take head.body (drop head.length u)) (sym c.rest_after.ensures) ∙ sym c.body_of.ensures)
    ∙ sym c.in_ok-what.ensures.value ∙ c.in-Err.is in
    fault_closes laws (read_state c.args.bytes.now c.args.self.now) past head c.closes_after-close.result
    c.in-Err.problem st
    c.requires.free c.closes_after-close.ensures c.if-close.true c.requires.whole asks _
    (closed_state c.args.bytes.now c.args.self.now c.consume_message-in-Err.new.self (head.length + head.body)
    c.put_fault.new.to
    (answered (fault_reply c.in-Err.problem) c.closes_after-close.result) c.consume_message-in-Err.ensures
    c.in_ok-put_fault-in-Err.ensures)

pub returns-clause-steps : goal.returns-clause-steps
returns-clause-steps c = λ past st.
    let laws : HeadLaws =
    record {
      one = c.one_finding.ensures;
      stays = c.decided_stays.ensures;
      limits = c.found_within_limits.ensures;
      none = c.no_bytes_need_more.ensures;
    } in
    let head = c.args.head.now in
    let asks = ap (λ b. requested head.operation head.json b)
    (ap (λ u. take head.body (drop head.length u)) (sym c.rest_after.ensures) ∙ sym c.body_of.ensures)
    ∙ sym c.in_ok-what.ensures.value ∙ c.in-Err.is in
    fault_goes laws (read_state c.args.bytes.now c.args.self.now) past head c.closes_after-close.result c.in-Err.problem
    st
    c.requires.free c.closes_after-close.ensures c.if-close.false c.requires.whole asks _
    (fault_state c.args.bytes.now c.args.self.now c.consume_message-in-Err.new.self (head.length + head.body)
    c.put_fault.new.to
    (answered (fault_reply c.in-Err.problem) c.closes_after-close.result) c.consume_message-in-Err.ensures
    c.in_ok-put_fault-in-Err.ensures)

pub returns-in-Ok-clause-plain : goal.returns-in-Ok-clause-plain
returns-in-Ok-clause-plain c =
    let head = c.args.head.now in (
      λ e. waits_for c.closes_after-close.result (sym c.waiting_for-self.ensures ∙ e),
      subst (λ (r : Result Command Fault). IfOk r IsRequest) c.in-Ok.is c.in_ok-what.ensures.lawful,
      less_asked (read_state c.args.bytes.now c.args.self.now) head c.closes_after-close.result _ c.requires.free
          c.closes_after-close.ensures _
          (command_state c.args.bytes.now c.args.self.now c.consume_message.new.self (head.length + head.body) _
          (waiting_for c.closes_after-close.result) c.consume_message.ensures c.waiting_for-self.ensures),
    )

pub returns-then-close-clause-plain : goal.returns-then-close-clause-plain
returns-then-close-clause-plain c = (
  (λ live. absurd (cc live), ap (λ (r : Progress). r.waiting) c.consume_message-in-Err.ensures ∙ c.requires.free.free),
  inl (less_ended (read_state c.args.bytes.now c.args.self.now)
      (read_state c.args.bytes.now (record c.consume_message-in-Err.new.self { standing = Closed }))
      c.requires.free refl),
)
