use Rattle.std.proofs.Common.{rules}
use Rattle.kcl_hand.proofs.handover.Handover.next.Goals as goal

pub returns-in-Mark-clause-next : goal.returns-in-Mark-clause-next
returns-in-Mark-clause-next c = search rules
