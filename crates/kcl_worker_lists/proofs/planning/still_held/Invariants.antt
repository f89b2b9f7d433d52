use Rattle.std.proofs.Common.{◌≡◌, ◌++◌, drop}
use Rattle.std.specs.List.{filter}
use Rattle.kcl_defs.specs.Workers.{still_stands}
use Rattle.kcl_worker_lists.proofs.planning.still_held.Given as goal

-- Kept leases so far, then the standing among the leases still to come, are all standing leases.
abbrev pub invariant-loop-h : goal.invariant-loop-h
invariant-loop-h l =
    l.kept.items ++ filter (still_stands l.fn.rows) (drop l.h-index l.held) ≡ filter (still_stands l.fn.rows) l.held
