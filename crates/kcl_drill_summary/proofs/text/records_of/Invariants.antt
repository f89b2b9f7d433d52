use Rattle.std.proofs.Common.{◌≡◌, ◌+◌, ◌<◌, ◌^◌, drop}
use Rattle.kcl_drill.specs.Summed.{Summed, sum_of}
use Rattle.kcl_drill_summary.proofs.text.records_of.Given as goal

-- The records so far and in the remaining shards are all, if there are fewer than 2^128.
abbrev pub invariant-loop-x : goal.invariant-loop-x
invariant-loop-x l = sum_of (λ (x : Summed). x.count) l.sums < 2 ^ 128
    → l.all + sum_of (λ (x : Summed). x.count) (drop l.x-index l.sums) ≡ sum_of (λ (x : Summed). x.count) l.sums
