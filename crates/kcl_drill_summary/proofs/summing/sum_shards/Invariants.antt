use Rattle.std.proofs.Common.{ℕ, ◌++◌, List, map, drop}
use Rattle.kds_defs.specs.declared.command.Turn.{Turn as Asked}
use Rattle.kds_defs.specs.Histories.{journal}
use Rattle.kcl_drill_summary.specs.Counting.{of_stream, summed_key}
use Rattle.kcl_drill_summary.specs.Summing.{CanTell, IsTold}
use Rattle.kcl_drill_summary.specs.Reads.{HasRead}
use Rattle.kcl_drill_summary.proofs.summing.sum_shards.Given as goal

-- The machine has still only read; the entries so far and the remaining keys make up the summary.
abbrev pub invariant-loop-key : goal.invariant-loop-key
invariant-loop-key g l =
    ((h : List Asked) → HasRead (g.M.Machine.stands_for l.fn.machine) l.by l.at h
    → HasRead (g.M.Machine.stands_for l.machine) l.by l.at h)
    × ((h : List Asked) (s : ℕ) → CanTell (g.M.Machine.stands_for l.fn.machine) l.by l.at h s l.keys l.among
    → IsTold (journal h) s l.keys
    (l.sums.items ++ map (summed_key (journal h)) (of_stream s (drop l.key-index l.keys))))
