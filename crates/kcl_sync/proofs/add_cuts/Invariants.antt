use Rattle.std.proofs.Common.{◌≡◌, ◌++◌, drop}
use Rattle.kcl_defs.specs.Plans.{cuts}
use Rattle.kcl_sync.proofs.add_cuts.Given as goal

-- Steps so far, then the cuts of the rows still to come, equal the steps at entry and all cuts.
abbrev pub invariant-loop-r : goal.invariant-loop-r
invariant-loop-r l = l.steps.all ++ cuts l.shards (drop l.r-index l.rows) ≡ l.fn.steps.all ++ cuts l.shards l.rows
