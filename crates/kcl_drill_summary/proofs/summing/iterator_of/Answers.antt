use Rattle.std.proofs.Common.{rules}
use Rattle.kcl_drill_summary.proofs.summing.iterator_of.Goals as goal

pub returns-then-eq : goal.returns-then-eq
returns-then-eq c = search rules
