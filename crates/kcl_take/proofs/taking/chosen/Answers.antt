use Rattle.std.proofs.Common.{rules}
use Rattle.kcl_take.proofs.taking.chosen.Goals as goal

pub returns-then-is_empty : goal.returns-then-is_empty
returns-then-is_empty c = search rules
