use Rattle.std.proofs.Common.{◌≢◌, ◌∙◌, sym, ap, subst}
use Rattle.kds_reply.specs.Replies.{reply_of}
use Rattle.kds_session.specs.declared.state.Waiting.TheVariants.{Nothing}
use Rattle.kds_session.specs.States.{SessionState}
use Rattle.kds_session.specs.Standing.{StandsFor, to_come}
use Rattle.kds_session.proofs.Stands.{answer_told, told_state, told_still}
use Rattle.kds_session.proofs.session.Session.absorb.Goals as goal

pub returns-clause-stands : goal.returns-clause-stands
returns-clause-stands c = λ past st.
    let waits = subst (λ (s : SessionState). s.waiting ≢ Nothing) (sym c.self.view_is) c.requires.waits in
    let stands = subst (λ (s : SessionState). StandsFor s past) (sym c.self.view_is) st in
    answer_told _ past c.args.answer.now stands waits _
    (told_state _ c.answer.new.self c.is_last-close.result _ (reply_of c.args.answer.now) c.in_ok-answer.ensures.ok
    c.is_last-close.ensures c.standing_after-self-inside.ensures)

pub returns-clause-as_much : goal.returns-clause-as_much
returns-clause-as_much c =
    let waits = subst (λ (s : SessionState). s.waiting ≢ Nothing) (sym c.self.view_is) c.requires.waits in
    told_still c.self.inside.left c.self.inside.standing _ c.self.inside.waiting c.is_last-close.result
    c.is_last-close.ensures waits c.standing_after-self-inside.ensures ∙ ap to_come c.self.view_is
