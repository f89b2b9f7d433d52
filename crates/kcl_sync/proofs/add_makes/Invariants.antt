use Rattle.std.proofs.Common.{◌≡◌, ◌++◌, drop}
use Rattle.kcl_defs.specs.Plans.{makes}
use Rattle.kcl_sync.proofs.add_makes.Given as goal

-- Steps so far, then the makes of the shards still to come, equal the steps at entry and all makes.
abbrev pub invariant-loop-key : goal.invariant-loop-key
invariant-loop-key l = (l.steps.from ≡ l.fn.steps.from)
    × (l.steps.all ++ makes l.fn.steps.from l.rows (drop l.key-index l.shards) ≡ l.fn.steps.all
    ++ makes l.fn.steps.from l.rows l.shards)
