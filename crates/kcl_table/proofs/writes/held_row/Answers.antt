use Rattle.std.proofs.Common.{rules}
use Rattle.kcl_table.proofs.writes.held_row.Goals as goal

pub returns-then-row-counter-clause-same : goal.returns-then-row-counter-clause-same
returns-then-row-counter-clause-same c = search rules

pub returns-clause-held : goal.returns-clause-held
returns-clause-held c = search rules
