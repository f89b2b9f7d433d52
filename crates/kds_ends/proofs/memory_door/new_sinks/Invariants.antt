use Rattle.std.proofs.Common.{◌≡◌, length}
use Rattle.kds_ends.proofs.memory_door.new_sinks.Given as goal

-- The number of sinks made so far.
abbrev pub invariant-loop-made : goal.invariant-loop-made
invariant-loop-made l = length l.sinks.items ≡ l.made
