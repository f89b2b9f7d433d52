use Rattle.std.proofs.Common.{◌≡◌, take}
use Rattle.kcl_table.proofs.table.Table.rows.Given as goal

-- The rows copied so far are the table's first rows.
abbrev pub invariant-loop-row : goal.invariant-loop-row
invariant-loop-row l = l.rows ≡ take l.row-index l.self
