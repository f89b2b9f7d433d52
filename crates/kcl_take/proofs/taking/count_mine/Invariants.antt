use Rattle.std.proofs.Common.{◌≡◌, ◌≤◌, ◌+◌, drop}
use Rattle.std.specs.List.{count_by}
use Rattle.kcl_defs.specs.Plans.{is_mine}
use Rattle.kcl_take.proofs.taking.count_mine.Given as goal

-- The count so far, plus the worker's rows still to come, is the count of all; it fits the rows passed.
abbrev pub invariant-loop-r : goal.invariant-loop-r
invariant-loop-r l = (l.count ≤ l.r-index)
    × (l.count + count_by (is_mine l.held) (drop l.r-index l.rows) ≡ count_by (is_mine l.held) l.rows)
