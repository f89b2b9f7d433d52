use Rattle.std.proofs.Common.{◌≡◌, ◌++◌, drop}
use Rattle.std.specs.Prelude.{flat_map}
use Rattle.kcl_drill.specs.Summed.{line_text}
use Rattle.kcl_drill_summary.proofs.text.lines_of.Given as goal

-- The lines so far and the lines of the remaining shards are all lines.
abbrev pub invariant-loop-x : goal.invariant-loop-x
invariant-loop-x l = l.to ++ flat_map line_text (drop l.x-index l.sums) ≡ flat_map line_text l.sums
