use Rattle.std.proofs.Common.{◌≡◌, drop}
use Rattle.kcl_defs.specs.Plans.{row_of}
use Rattle.kcl_worker_lists.proofs.search.first_row.Given as goal

abbrev pub invariant-loop-r : goal.invariant-loop-r
invariant-loop-r l = row_of (drop l.r-index l.rows) l.fn.key ≡ row_of l.rows l.fn.key
