use Rattle.std.proofs.Common.{◌∙◌, sym, subst}
use Rattle.kds_head.specs.declared.found.Found.{Found}
use Rattle.kds_head.specs.declared.found.Found.TheVariants.{Refused}
use Rattle.kds_head.specs.Find.{IsFound}
use Rattle.kds_session.proofs.Readings.{whole_by, short_by}
use Rattle.kds_session.proofs.front.read_front.Goals as goal

pub returns-in-Refused-clause-front : goal.returns-in-Refused-clause-front
returns-in-Refused-clause-front c =
    subst (λ (f : Found). IsFound c.args.unread.now f) c.in-Refused.is c.in_ok-find_head.ensures

pub returns-in-Refused-clause-status : goal.returns-in-Refused-clause-status
returns-in-Refused-clause-status c =
    c.found_within_limits.ensures c.args.unread.now (Refused c.in-Refused.status)
    (subst (λ (f : Found). IsFound c.args.unread.now f) c.in-Refused.is c.in_ok-find_head.ensures)

pub returns-then-is_whole-clause-front : goal.returns-then-is_whole-clause-front
returns-then-is_whole-clause-front c =
    whole_by c.args.unread.now c.in-Whole.head
    (subst (λ (f : Found). IsFound c.args.unread.now f) c.in-Whole.is c.in_ok-find_head.ensures)
    (sym c.is_whole.ensures ∙ c.if-is_whole.true)

pub returns-else-is_whole-clause-front : goal.returns-else-is_whole-clause-front
returns-else-is_whole-clause-front c =
    short_by c.args.unread.now c.in-Whole.head
    (subst (λ (f : Found). IsFound c.args.unread.now f) c.in-Whole.is c.in_ok-find_head.ensures)
    (sym c.is_whole.ensures ∙ c.if-is_whole.false)
