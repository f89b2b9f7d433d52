use Rattle.std.proofs.Common.{◌≡◌, ◌+◌, ◌++◌, ◌∷◌, [], ◌<◌, List, Option, ℕ, length, subst, sym, ◌∙◌, ap, rules}
use Rattle.std.specs.List.{filter}
use Rattle.std.specs.List.Sorted.{IsNonDecreasingBy}
use Rattle.kds_defs.specs.Shards.{ShardState, Closing}
use Rattle.std.specs.Prelude.{slice_set}
use Rattle.kds_defs.specs.Streams.{floor_of}
use Rattle.kds_tree.specs.Families.{AreFamilies}
use Rattle.kds_tree.specs.Front.{AreLeft}
use Rattle.kds_tree.specs.Starts.{AreStarts, own_start, stays}
use Rattle.kds_tree.specs.declared.start.OpenStart.{OpenStart}
use Rattle.kds_tree.specs.Tree.{IsTree, TreeValue}
use Rattle.kds_tree.proofs.Families.{two_places}
use Rattle.kds_tree.proofs.Reshards.{front_split, refused_answer, refused_value, split_known, split_within, splits}
use Rattle.kds_tree.proofs.Reshards.{split_value}
use Rattle.kds_tree.proofs.tree.ShardTree.split.Goals as goal

pub invariant_of-self-2 : goal.invariant_of-self-2
invariant_of-self-2 c =
    let xs = c.args.self.now.shards in
    let how : Closing = record { number = c.args.seq; clock = c.args.clock } in
    let low = c.new-lower_child.result in
    let high = c.new-upper_child.result in
    let pushed : c.extend_from_slice.new.self.items ≡ xs ++ (low ∷ high ∷ []) =
    c.in_ok-extend_from_slice.ensures.items
    ∙ ap (λ (ss : List ShardState). ss ++ (low ∷ high ∷ [])) (ap (λ (t : TreeValue). t.shards) c.self.view_is) in
    let s = splits xs c.extend_from_slice.new.self.items c.args.shard c.shard.inside.0 c.args.at c.args.seq c.len.result
    c.len-2.result c.seq.inside.0 how c.in-Ok.ranges low high c.index_mut.result.now c.close.new.self
    c.in-Ok.ensures c.shard.view_is c.len.ensures.value c.len-2.ensures.value c.seq.view_is c.new-lower_child.ensures
    c.new-upper_child.ensures pushed c.index_mut.ensures.value c.close.ensures in
    let ss = c.self.inside.starts.items in
    let starts : AreStarts ss xs =
    subst (AreStarts ss) (ap (λ (t : TreeValue). t.shards) c.self.view_is) c.self.invariant.starts in
    let left = filter (stays c.args.shard c.args.shard) in
    let added = c.open_start.result ∷ c.open_start-2.result ∷ [] in
    let away : left c.reserve.new.self.items ++ added ≡ left ss ++ own_start low ∷ own_start high ∷ [] =
    cc (ap left c.reserve.ensures.items, c.open_start.ensures, c.open_start-2.ensures) in
    let tree = subst IsTree (ap (λ (t : TreeValue). t.shards) c.self.view_is) c.self.invariant.tree in
    let firsts = c.self.inside.first_children.items in
    let families : AreFamilies firsts xs =
    subst (AreFamilies firsts) (ap (λ (t : TreeValue). t.shards) c.self.view_is) c.self.invariant.families in
    let names = c.self.inside.front.left.items in
    let front : AreLeft (floor_of c.self.inside.front.cut) 0 c.self.inside.front.count names xs =
    subst (AreLeft (floor_of c.self.inside.front.cut) 0 c.self.inside.front.count names)
    (ap (λ (t : TreeValue). t.shards) c.self.view_is) c.self.invariant.front in
    let places = two_places firsts c.reserve-2.new.self.items c.set_first_child.new.first_children.items
    c.push_reserved.new.self.items c.push_reserved-2.new.self.items c.args.shard c.args.shard c.len.result _
    c.reserve-2.ensures.items c.set_first_child.ensures.items c.len.ensures.value c.push_reserved.ensures.items
    c.push_reserved-2.ensures.items in
    let zs = slice_set c.extend_from_slice.new.self.items c.shard.inside.0 c.close.new.self in
    record {
      tree = s.tree tree;
      starts = s.starts tree ss (left c.reserve.new.self.items ++ added) c.split_start.new.starts.items starts away
          c.split_start.ensures.same c.split_start.ensures.order;
      families = subst (λ (fs : List (Option ℕ)). AreFamilies fs zs) (sym places) (s.families firsts families);
      front = front_split xs c.extend_from_slice.new.self.items c.args.shard c.shard.inside.0 c.args.at
          (floor_of c.self.inside.front.cut) c.self.inside.front.count names c.in-Ok.ranges low high c.close.new.self
          c.in-Ok.ensures c.shard.view_is pushed front;
    }

pub split_start-requires-clause-order : goal.split_start-requires-clause-order
split_start-requires-clause-order c =
    let starts : AreStarts c.self.inside.starts.items c.args.self.now.shards =
    subst (AreStarts c.self.inside.starts.items) (ap (λ (t : TreeValue). t.shards) c.self.view_is)
    c.self.invariant.starts in
    subst (λ (ss : List OpenStart). IsNonDecreasingBy (λ (s : OpenStart). s.key) ss) (sym c.reserve.ensures.items)
    starts.order

pub set_first_child-requires-clause-shard : goal.set_first_child-requires-clause-shard
set_first_child-requires-clause-shard c =
    let firsts = c.self.inside.first_children.items in
    let families : AreFamilies firsts c.args.self.now.shards =
    subst (AreFamilies firsts) (ap (λ (t : TreeValue). t.shards) c.self.view_is) c.self.invariant.families in
    split_known c.args.self.now.shards firsts c.reserve-2.new.self.items c.args.shard c.args.at
    c.in-Ok.ranges c.in-Ok.ensures families c.reserve-2.ensures.items

pub set_first_child-requires-clause-other : goal.set_first_child-requires-clause-other
set_first_child-requires-clause-other c = set_first_child-requires-clause-shard c

pub returns-clause-value : goal.returns-clause-value
returns-clause-value c =
    let xs = c.args.self.now.shards in
    let how : Closing = record { number = c.args.seq; clock = c.args.clock } in
    let low = c.new-lower_child.result in
    let high = c.new-upper_child.result in
    let pushed : c.extend_from_slice.new.self.items ≡ xs ++ (low ∷ high ∷ []) =
    c.in_ok-extend_from_slice.ensures.items
    ∙ ap (λ (ss : List ShardState). ss ++ (low ∷ high ∷ [])) (ap (λ (t : TreeValue). t.shards) c.self.view_is) in
    split_value xs c.args.shard c.args.at (c.args.seq + 1) how low high _ (
    splits xs c.extend_from_slice.new.self.items c.args.shard c.shard.inside.0 c.args.at c.args.seq c.len.result
    c.len-2.result c.seq.inside.0 how c.in-Ok.ranges low high c.index_mut.result.now c.close.new.self
    c.in-Ok.ensures c.shard.view_is c.len.ensures.value c.len-2.ensures.value c.seq.view_is c.new-lower_child.ensures
    c.new-upper_child.ensures pushed c.index_mut.ensures.value c.close.ensures)

pub returns-in-Err-clause-answer : goal.returns-in-Err-clause-answer
returns-in-Err-clause-answer c = refused_answer _ c.in-Err.refusal _ _ c.in-Err.ensures

pub returns-in-Err-clause-value : goal.returns-in-Err-clause-value
returns-in-Err-clause-value c = refused_value _ c.in-Err.refusal _ c.args.self.now.shards _ c.in-Err.ensures

pub index_mut-requires : goal.index_mut-requires
index_mut-requires c =
    let xs = c.args.self.now.shards in
    let low = c.new-lower_child.result in
    let high = c.new-upper_child.result in
    let pushed : c.extend_from_slice.new.self.items ≡ xs ++ (low ∷ high ∷ []) =
    c.in_ok-extend_from_slice.ensures.items
    ∙ ap (λ (ss : List ShardState). ss ++ (low ∷ high ∷ [])) (ap (λ (t : TreeValue). t.shards) c.self.view_is) in
    let within : c.shard.inside.0 < length c.extend_from_slice.new.self.items =
    split_within xs c.extend_from_slice.new.self.items c.args.shard c.shard.inside.0 c.args.at c.in-Ok.ranges low high
    c.in-Ok.ensures c.shard.view_is pushed in
    search (rules, within)
