use Rattle.std.proofs.Common.{◌≡◌, ◌+◌, drop}
use Rattle.std.specs.Str.{bytes_eq}
use Rattle.kpl_frame.specs.Packing.{index_in}
use Rattle.kpl_frame.proofs.packing.key_index.Given as goal

-- The key isn't before `at`, so its index is `at` plus its index from there.
abbrev pub invariant-loop-at : goal.invariant-loop-at
invariant-loop-at l = l.at + index_in bytes_eq l.key (drop l.at l.keys) ≡ index_in bytes_eq l.key l.keys
