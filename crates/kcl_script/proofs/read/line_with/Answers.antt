use Rattle.std.proofs.Common.{rules}
use Rattle.kcl_script.proofs.read.line_with.Goals as goal

pub returns-then-eq-6 : goal.returns-then-eq-6
returns-then-eq-6 c = search rules
