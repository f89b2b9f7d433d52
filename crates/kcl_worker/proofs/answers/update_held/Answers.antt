use Rattle.std.proofs.Common.{rules}
use Rattle.kcl_worker.proofs.answers.update_held.Goals as goal

pub returns-then-opened_or_marked : goal.returns-then-opened_or_marked
returns-then-opened_or_marked c = search rules

pub returns-else-loss : goal.returns-else-loss
returns-else-loss c = search rules

pub returns-in-Counter : goal.returns-in-Counter
returns-in-Counter c = search rules
