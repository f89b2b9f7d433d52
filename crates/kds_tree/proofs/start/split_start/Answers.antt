use Rattle.std.proofs.Common.{◌∷◌, [], ◌++◌, List, append_assoc, subst, sym}
use Rattle.std.specs.List.{filter}
use Rattle.std.specs.List.Sorted.{IsNonDecreasingBy, IsPermutation}
use Rattle.std.proofs.lemmas.List.Kept.{IsNonDecreasingBy-filter}
use Rattle.std.proofs.lemmas.List.Sorted.{IsPermutation-append_left, IsPermutation-trans}
use Rattle.kds_tree.specs.Starts.{stays}
use Rattle.kds_tree.specs.declared.start.OpenStart.{OpenStart}
use Rattle.kds_tree.proofs.start.split_start.Goals as goal

pub insert_start-requires-clause-order : goal.insert_start-requires-clause-order
insert_start-requires-clause-order c =
    let sh = c.args.shard in
    subst (λ (ss : List OpenStart). IsNonDecreasingBy (λ (s : OpenStart). s.key) ss) (sym c.remove_starts.ensures.left)
    (IsNonDecreasingBy-filter (λ (s : OpenStart). s.key) (stays sh sh) c.args.starts.now.items c.requires.order)

pub returns-clause-same : goal.returns-clause-same
returns-clause-same c =
    let left = filter (stays c.args.shard c.args.shard) c.args.starts.now.items in
    let low = c.args.lower ∷ [] in
    let high = c.args.upper ∷ [] in
    let one = c.insert_start.new.starts.items in
    let first : IsPermutation (left ++ low) one =
    subst (λ (ss : List OpenStart). IsPermutation (ss ++ low) one) c.remove_starts.ensures.left
    c.insert_start.ensures.same in
    subst (λ (ss : List OpenStart). IsPermutation ss c.insert_start-2.new.starts.items) (append_assoc left low high)
    (IsPermutation-trans ((left ++ low) ++ high) (one ++ high) c.insert_start-2.new.starts.items
    (IsPermutation-append_left high (left ++ low) one first) c.insert_start-2.ensures.same)
