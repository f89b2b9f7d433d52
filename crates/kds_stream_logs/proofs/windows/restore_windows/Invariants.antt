use Rattle.std.proofs.Common.{◌≡◌, length}
use Rattle.kds_stream_logs.specs.Saved.{restored}
use Rattle.kds_stream_logs.proofs.windows.restore_windows.Given as goal

-- Putting back the saved windows that are left gives what putting back all of them gives.
abbrev pub invariant-loop-last : goal.invariant-loop-last
invariant-loop-last l = restored l.saved.items l.windows ≡ restored l.initial.saved.items l.initial.windows

-- Each round puts back one of the saved windows that are left.
abbrev pub decreases-loop-last : goal.decreases-loop-last
decreases-loop-last l = length l.saved.items
