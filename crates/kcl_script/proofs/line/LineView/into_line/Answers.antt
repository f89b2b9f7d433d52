use Rattle.std.proofs.Common.{rules}
use Rattle.kcl_script.proofs.line.LineView.into_line.Goals as goal

pub returns-in_ok-body-in-Api : goal.returns-in_ok-body-in-Api
returns-in_ok-body-in-Api c = search rules
