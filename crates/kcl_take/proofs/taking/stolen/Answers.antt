use Rattle.std.proofs.Common.{rules}
use Rattle.kcl_take.proofs.taking.stolen.Goals as goal

pub returns-then-target-load_of : goal.returns-then-target-load_of
returns-then-target-load_of c = search rules
