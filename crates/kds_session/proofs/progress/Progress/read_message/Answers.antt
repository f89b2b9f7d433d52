use Rattle.std.proofs.Common.{◌∙◌, subst, sym, ap, inl, inr, refl, List, ℕ}
use Rattle.kds_head.specs.Find.{IsFound}
use Rattle.kds_head.specs.declared.found.Found.TheVariants.{Refused}
use Rattle.kds_session.specs.declared.front.Front.{Front}
use Rattle.kds_session.specs.Messages.{IsUnfinished, IsShort}
use Rattle.kds_session.specs.Steps.{IsFront, read_state}
use Rattle.kds_session.specs.States.{SessionState}
use Rattle.kds_session.specs.Standing.{to_come}
use Rattle.kds_session.proofs.Stands.{refused_now, refused_state, refused_not_live, less_ended}
use Rattle.kds_session.proofs.progress.Progress.read_message.Goals as goal

pub returns-in-Begun-clause-steps : goal.returns-in-Begun-clause-steps
returns-in-Begun-clause-steps c = λ past st.
    let front = subst (λ (f : Front). IsFront c.rest_after.result.now f)
    c.in-Begun.is c.in_ok-read_front.ensures.front in
    let short = subst (λ (b : List ℕ). IsShort b c.in-Begun.head) c.rest_after.ensures front in
    (st, (λ live. inr (c.in-Begun.head, short), c.requires.free.free))

pub returns-in-Begun-clause-plain : goal.returns-in-Begun-clause-plain
returns-in-Begun-clause-plain c =
    let front = subst (λ (f : Front). IsFront c.rest_after.result.now f)
    c.in-Begun.is c.in_ok-read_front.ensures.front in
    let short = subst (λ (b : List ℕ). IsShort b c.in-Begun.head) c.rest_after.ensures front in
    ((λ live. inr (c.in-Begun.head, short), c.requires.free.free), inr (refl, refl))

pub returns-in-Begun-clause-kept : goal.returns-in-Begun-clause-kept
returns-in-Begun-clause-kept c =
    let front = subst (λ (f : Front). IsFront c.rest_after.result.now f)
    c.in-Begun.is c.in_ok-read_front.ensures.front in
    (subst (λ (b : List ℕ). IsShort b c.in-Begun.head) c.rest_after.ensures front).found

pub returns-in-Unfinished-clause-steps : goal.returns-in-Unfinished-clause-steps
returns-in-Unfinished-clause-steps c = λ past st.
    let front = subst (λ (f : Front). IsFront c.rest_after.result.now f) c.in-Unfinished.is
    c.in_ok-read_front.ensures.front in
    let unfinished = subst (λ (b : List ℕ). IsUnfinished b) c.rest_after.ensures front in
    (st, (λ live. unfinished, c.requires.free.free))

pub returns-in_ok-refuse-in-Refused-clause-steps : goal.returns-in_ok-refuse-in-Refused-clause-steps
returns-in_ok-refuse-in-Refused-clause-steps c = λ past st.
    let front = subst (λ (f : Front). IsFront c.rest_after.result.now f)
    c.in-Refused.is c.in_ok-read_front.ensures.front in
    let found = subst (λ (b : List ℕ). IsFound b (Refused c.in-Refused.status)) c.rest_after.ensures front in
    refused_now c.decided_stays.ensures (read_state c.args.bytes.now c.args.self.now) c.in-Refused.status past st
    c.requires.free found _
    (refused_state c.args.bytes.now c.args.self.now c.refuse.new.self c.in-Refused.status
    c.in_ok-refuse-in-Refused.ensures)

pub returns-in-Unfinished-clause-plain : goal.returns-in-Unfinished-clause-plain
returns-in-Unfinished-clause-plain c =
    let front = subst (λ (f : Front). IsFront c.rest_after.result.now f) c.in-Unfinished.is
    c.in_ok-read_front.ensures.front in
    let unfinished = subst (λ (b : List ℕ). IsUnfinished b) c.rest_after.ensures front in
    ((λ live. unfinished, c.requires.free.free), inr (refl, refl))

pub returns-in_ok-refuse-in-Refused-clause-plain : goal.returns-in_ok-refuse-in-Refused-clause-plain
returns-in_ok-refuse-in-Refused-clause-plain c =
    let new = refused_state c.args.bytes.now c.args.self.now c.refuse.new.self c.in-Refused.status
    c.in_ok-refuse-in-Refused.ensures in (
      (
        λ live. absurd (refused_not_live c.in-Refused.status (sym (ap (λ (s : SessionState). s.standing) new) ∙ live)),
        ap (λ (s : SessionState). s.waiting) new ∙ c.requires.free.free,
      ),
      inl (less_ended (read_state c.args.bytes.now c.args.self.now) (read_state c.args.bytes.now c.refuse.new.self)
          c.requires.free (ap to_come new)),
    )
