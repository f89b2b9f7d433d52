use Rattle.std.proofs.Common.{◌≡◌, ◌+◌, ◌<◌, ◌^◌, drop, map}
use Rattle.kds_defs.specs.Records.{logged}
use Rattle.kcl_drill.specs.Summed.{bytes_of}
use Rattle.kcl_drill_summary.proofs.counting.payload_bytes.Given as goal

-- The bytes so far and in the remaining records are all, if there are fewer than 2^128.
abbrev pub invariant-loop-r : goal.invariant-loop-r
invariant-loop-r l = bytes_of (map logged l.batch) < 2 ^ 128 → l.bytes + bytes_of (map logged (drop l.r-index l.batch))
    ≡ bytes_of (map logged l.batch)
