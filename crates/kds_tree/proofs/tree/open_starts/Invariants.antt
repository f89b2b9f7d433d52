use Rattle.std.proofs.Common.{◌≡◌, ◌++◌, drop}
use Rattle.kds_tree.specs.Starts.{open_starts}
use Rattle.kds_tree.proofs.tree.open_starts.Given as goal

-- The starts added so far, followed by the starts of the remaining open shards, are all starts.
abbrev pub invariant-loop-kept : goal.invariant-loop-kept
invariant-loop-kept l = l.starts.items ++ open_starts (drop l.kept-index l.shards) ≡ open_starts l.shards
