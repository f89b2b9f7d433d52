use Rattle.std.proofs.Common.{◌≡◌, ◌++◌, map, take, drop}
use Rattle.kcl_sim_scribe.specs.Known.{renumbered}
use Rattle.kcl_sim_scribe.proofs.known.change.Given as goal

-- The streams before `l.i` have the numbers that the entry leaves, and the others are unchanged.
abbrev pub invariant-loop-i : goal.invariant-loop-i
invariant-loop-i l = l.streams.items ≡ map (renumbered l.what) (take l.i l.initial.streams.items)
    ++ drop l.i l.initial.streams.items
