use Rattle.std.proofs.Common.{rules}
use Rattle.kcl_hand.proofs.stand.after_consumer_over.Goals as goal

pub returns-in-Some : goal.returns-in-Some
returns-in-Some c = search rules
