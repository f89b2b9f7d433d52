use Rattle.std.proofs.Common.{rules}
use Rattle.kcl_renew.proofs.due.Goals as goal

pub returns-then-since-ms : goal.returns-then-since-ms
returns-then-since-ms c = search rules
