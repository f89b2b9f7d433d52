use Rattle.std.proofs.Common.{◌∷◌, [], ◌++◌, List, subst, sym}
use Rattle.std.specs.List.Sorted.{IsNonDecreasingBy, IsPermutation}
use Rattle.std.proofs.lemmas.List.Kept.{IsNonDecreasingBy-filter}
use Rattle.kds_tree.specs.Starts.{stays}
use Rattle.kds_tree.specs.declared.start.OpenStart.{OpenStart}
use Rattle.kds_tree.proofs.start.join_starts.Goals as goal

pub insert_start-requires-clause-order : goal.insert_start-requires-clause-order
insert_start-requires-clause-order c =
    let sh = c.args.shard in
    let other = c.args.other in
    subst (λ (ss : List OpenStart). IsNonDecreasingBy (λ (s : OpenStart). s.key) ss) (sym c.remove_starts.ensures.left)
    (IsNonDecreasingBy-filter (λ (s : OpenStart). s.key) (stays sh other) c.args.starts.now.items c.requires.order)

pub returns-clause-same : goal.returns-clause-same
returns-clause-same c =
    subst (λ (ss : List OpenStart). IsPermutation (ss ++ c.args.born ∷ []) c.insert_start.new.starts.items)
    c.remove_starts.ensures.left c.insert_start.ensures.same
