use Rattle.std.proofs.Common.{◌≡◌, ◌-◌, ◌^◌, List, max, Some}
use Rattle.kds_defs.specs.declared.command.Turn.{Turn as Asked}
use Rattle.kds_defs.specs.Histories.{clock, journal}
use Rattle.kds_defs.specs.Listings.{iterator_at}
use Rattle.kcl_drill_summary.specs.Reads.{HasRead}
use Rattle.kcl_drill_summary.specs.Counting.{CanCount, GoesOn}
use Rattle.kcl_drill_summary.proofs.counting.count_from.Given as goal

-- The machine has still only read since each history (`HasRead`), and `GoesOn` stays true.
abbrev pub invariant-loop-now : goal.invariant-loop-now
invariant-loop-now g l =
    ((h : List Asked) → HasRead (g.M.Machine.stands_for l.fn.machine) l.by l.at h
    → HasRead (g.M.Machine.stands_for l.machine) l.by l.at h)
    × ((h : List Asked) → HasRead (g.M.Machine.stands_for l.fn.machine) l.by l.at h
    → CanCount (journal h) (max (clock h) l.at) l.fn.from.stream l.fn.from.shard
    → l.fn.from ≡ iterator_at (max (clock h) l.at) l.fn.from.stream l.fn.from.shard 0
    → GoesOn (journal h) (max (clock h) l.at) l.fn.from.stream l.fn.from.shard l.count.count l.count.bytes
    (Some l.iter))

abbrev pub decreases-loop-now : goal.decreases-loop-now
decreases-loop-now g l = 2 ^ 64 - l.iter.position
