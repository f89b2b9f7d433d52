use Rattle.std.proofs.Common.{rules}
use Rattle.kcl_drill_summary.proofs.report.summary.Goals as goal

pub returns-clause-text : goal.returns-clause-text
returns-clause-text c = search rules
