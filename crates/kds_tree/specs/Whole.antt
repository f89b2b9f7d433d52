-- The invariant of a shard tree, which says how its parts fit together.
use Rattle.std.specs.Prelude.{ℕ, List, Option}
use Rattle.kds_defs.specs.Shards.{ShardState}
use Rattle.kds_tree.specs.declared.start.OpenStart.{OpenStart}
use Rattle.kds_tree.specs.Families.{AreFamilies}
use Rattle.kds_tree.specs.Front.{AreLeft}
use Rattle.kds_tree.specs.Starts.{AreStarts}
use Rattle.kds_tree.specs.Tree.{IsTree}

-- The shards meet `IsTree`, and the starts, the index of first children and the front fit them.
pub record FitTogether (xs : List ShardState) (ss : List OpenStart) (firsts : List (Option ℕ)) (floor count : ℕ)
    (names : List ℕ) : Type 0 where
  pub tree : IsTree xs
  pub starts : AreStarts ss xs
  pub families : AreFamilies firsts xs
  pub front : AreLeft floor 0 count names xs
