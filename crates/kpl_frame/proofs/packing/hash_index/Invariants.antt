use Rattle.std.proofs.Common.{◌≡◌, ◌+◌, drop}
use Rattle.std.specs.Prelude.{nat_eq}
use Rattle.kpl_frame.specs.Packing.{index_in}
use Rattle.kpl_frame.proofs.packing.hash_index.Given as goal

-- The hash isn't before `at`, so its index is `at` plus its index from there.
abbrev pub invariant-loop-at : goal.invariant-loop-at
invariant-loop-at l = l.at + index_in nat_eq l.hash (drop l.at l.hashes) ≡ index_in nat_eq l.hash l.hashes
