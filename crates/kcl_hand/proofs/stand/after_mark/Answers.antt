use Rattle.std.proofs.Common.{rules}
use Rattle.kcl_hand.proofs.stand.after_mark.Goals as goal

pub returns-in-Counter : goal.returns-in-Counter
returns-in-Counter c = search rules
