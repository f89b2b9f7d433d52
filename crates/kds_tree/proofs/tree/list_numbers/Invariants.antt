use Rattle.std.proofs.Common.{◌≡◌, ◌≤◌, ◌++◌, length, drop}
use Rattle.kds_tree.specs.Front.{listing, picked}
use Rattle.kds_tree.proofs.tree.list_numbers.Given as goal

-- The page so far, followed by the remaining unexpired shards, is the whole listing, within `limit`.
abbrev pub invariant-loop-no : goal.invariant-loop-no
invariant-loop-no l = record {
  all : l.listed ++ listing l.cut (picked (drop l.no-index l.numbers) l.shards) ≡ l.initial.listed
      ++ listing l.cut (picked l.numbers l.shards);
  few : length l.listed ≤ l.limit;
}
