use Rattle.std.proofs.Common.{◌≡◌, ◌++◌, drop}
use Rattle.kds_defs.specs.Listings.{refs_of}
use Rattle.kds_defs.specs.Shards.{listed_among}
use Rattle.kds_defs.specs.Streams.{floor_of}
use Rattle.kds_tree.specs.Front.{picked}
use Rattle.kds_tree.proofs.listed_keys.add_numbers.Given as goal

-- The keys so far, followed by the keys of the remaining unexpired shards, are the final keys.
abbrev pub invariant-loop-no : goal.invariant-loop-no
invariant-loop-no l =
    l.keys ++ refs_of l.stream (listed_among (floor_of l.cut) (picked (drop l.no-index l.numbers) l.shards))
    ≡ l.initial.keys ++ refs_of l.stream (listed_among (floor_of l.cut) (picked l.numbers l.shards))
