use Rattle.std.proofs.Common.{rules}
use Rattle.kcl_script.proofs.workers.parse_kind.Goals as goal

pub returns-then-eq-2 : goal.returns-then-eq-2
returns-then-eq-2 c = search rules

pub returns-then-eq-3 : goal.returns-then-eq-3
returns-then-eq-3 c = search rules
