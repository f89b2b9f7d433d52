use Rattle.std.proofs.Common.{◌≡◌, ◌++◌, drop}
use Rattle.kds_tree.specs.Starts.{starting_keys}
use Rattle.kds_tree.proofs.tree.keys_of.Given as goal

-- The keys added so far, followed by the keys of the remaining starts, are all keys.
abbrev pub invariant-loop-start : goal.invariant-loop-start
invariant-loop-start l = l.keys ++ starting_keys (drop l.start-index l.starts) ≡ starting_keys l.starts
