use Rattle.std.proofs.Common.{◌≡◌, length}
use Rattle.std.specs.List.{AllByRecursion}
use Rattle.kds_stream_logs.specs.Rating.{IsUnused}
use Rattle.kds_stream_logs.proofs.windows.new_windows.Given as goal

-- Each round has added one unused window.
abbrev pub invariant-loop-i : goal.invariant-loop-i
invariant-loop-i l = record { many : length l.windows.items ≡ l._i; unused : AllByRecursion IsUnused l.windows.items }
