use Rattle.std.proofs.Common.{◌≡◌, ◌+◌, ◌++◌, ◌∷◌, [], List, Option, ℕ, length, refl, rules, subst, sym, ◌∙◌, ap}
use Rattle.std.specs.List.{filter}
use Rattle.std.specs.List.Sorted.{IsNonDecreasingBy}
use Rattle.std.specs.Vec.{vec_len}
use Rattle.kds_defs.specs.Shards.{ShardState, Closing}
use Rattle.std.specs.Prelude.{slice_set}
use Rattle.kds_defs.specs.Streams.{floor_of}
use Rattle.kds_tree.specs.Families.{AreFamilies}
use Rattle.kds_tree.specs.Front.{AreLeft}
use Rattle.kds_tree.specs.Starts.{AreStarts, own_start, stays}
use Rattle.kds_tree.specs.declared.start.OpenStart.{OpenStart}
use Rattle.kds_tree.specs.Tree.{IsTree, TreeValue}
use Rattle.kds_tree.proofs.Families.{one_place}
use Rattle.kds_tree.proofs.Reshards.{both_known, both_within, front_merge, merges, merge_value, refused_answer}
use Rattle.kds_tree.proofs.Reshards.{refused_value}
use Rattle.kds_tree.proofs.tree.ShardTree.merge.Goals as goal

pub invariant_of-self-2 : goal.invariant_of-self-2
invariant_of-self-2 c =
    let xs = c.args.self.now.shards in
    let how : Closing = record { number = c.args.seq; clock = c.args.clock } in
    let born = c.new-born.result in
    let pushed : c.push.new.self.items ≡ xs ++ born ∷ [] =
    c.in_ok-push.ensures.items
    ∙ ap (λ (ss : List ShardState). ss ++ born ∷ []) (ap (λ (t : TreeValue). t.shards) c.self.view_is) in
    let s = merges xs c.push.new.self.items c.args.shard c.args.other c.shard.inside.0 c.other.inside.0 c.args.seq
    c.len.result c.seq.inside.0 how c.in-Ok.range born c.index_mut.result.now c.close.new.self
    c.index_mut-2.result.now c.close-2.new.self
    c.in-Ok.ensures c.shard.view_is c.other.view_is c.len.ensures.value c.seq.view_is c.new-born.ensures pushed
    c.index_mut.ensures.value c.close.ensures c.index_mut-2.ensures.value c.close-2.ensures in
    let ss = c.self.inside.starts.items in
    let starts : AreStarts ss xs =
    subst (AreStarts ss) (ap (λ (t : TreeValue). t.shards) c.self.view_is) c.self.invariant.starts in
    let left = filter (stays c.args.shard c.args.other) in
    let added = c.open_start.result ∷ [] in
    let away : left c.reserve.new.self.items ++ added ≡ left ss ++ own_start born ∷ [] =
    cc (ap left c.reserve.ensures.items, c.open_start.ensures) in
    let tree = subst IsTree (ap (λ (t : TreeValue). t.shards) c.self.view_is) c.self.invariant.tree in
    let firsts = c.self.inside.first_children.items in
    let families : AreFamilies firsts xs =
    subst (AreFamilies firsts) (ap (λ (t : TreeValue). t.shards) c.self.view_is) c.self.invariant.families in
    let names = c.self.inside.front.left.items in
    let front : AreLeft (floor_of c.self.inside.front.cut) 0 c.self.inside.front.count names xs =
    subst (AreLeft (floor_of c.self.inside.front.cut) 0 c.self.inside.front.count names)
    (ap (λ (t : TreeValue). t.shards) c.self.view_is) c.self.invariant.front in
    let places = one_place firsts c.reserve-2.new.self.items c.set_first_child.new.first_children.items
    c.push_reserved.new.self.items c.args.shard c.args.other c.len.result _
    c.reserve-2.ensures.items c.set_first_child.ensures.items c.len.ensures.value c.push_reserved.ensures.items in
    let zs = slice_set (slice_set c.push.new.self.items c.shard.inside.0 c.close.new.self) c.other.inside.0
    c.close-2.new.self in
    record {
      tree = s.tree tree;
      starts = s.starts tree ss (left c.reserve.new.self.items ++ added) c.join_starts.new.starts.items starts away
          c.join_starts.ensures.same c.join_starts.ensures.order;
      families = subst (λ (fs : List (Option ℕ)). AreFamilies fs zs) (sym places) (s.families firsts families);
      front = front_merge xs c.push.new.self.items c.args.shard c.args.other c.shard.inside.0 c.other.inside.0
          (floor_of c.self.inside.front.cut) c.self.inside.front.count names c.in-Ok.range _ born c.close.new.self
          c.close-2.new.self
          c.in-Ok.ensures c.shard.view_is c.other.view_is pushed front;
    }

pub join_starts-requires-clause-order : goal.join_starts-requires-clause-order
join_starts-requires-clause-order c =
    let starts : AreStarts c.self.inside.starts.items c.args.self.now.shards =
    subst (AreStarts c.self.inside.starts.items) (ap (λ (t : TreeValue). t.shards) c.self.view_is)
    c.self.invariant.starts in
    subst (λ (ss : List OpenStart). IsNonDecreasingBy (λ (s : OpenStart). s.key) ss) (sym c.reserve.ensures.items)
    starts.order

pub set_first_child-requires-clause-shard : goal.set_first_child-requires-clause-shard
set_first_child-requires-clause-shard c =
    let firsts = c.self.inside.first_children.items in
    let families : AreFamilies firsts c.args.self.now.shards =
    subst (AreFamilies firsts) (ap (λ (t : TreeValue). t.shards) c.self.view_is) c.self.invariant.families in
    (both_known c.args.self.now.shards firsts c.reserve-2.new.self.items c.args.shard c.args.other
    c.in-Ok.range _ c.in-Ok.ensures families c.reserve-2.ensures.items).0

pub set_first_child-requires-clause-other : goal.set_first_child-requires-clause-other
set_first_child-requires-clause-other c =
    let firsts = c.self.inside.first_children.items in
    let families : AreFamilies firsts c.args.self.now.shards =
    subst (AreFamilies firsts) (ap (λ (t : TreeValue). t.shards) c.self.view_is) c.self.invariant.families in
    (both_known c.args.self.now.shards firsts c.reserve-2.new.self.items c.args.shard c.args.other
    c.in-Ok.range _ c.in-Ok.ensures families c.reserve-2.ensures.items).1

pub returns-clause-value : goal.returns-clause-value
returns-clause-value c =
    let xs = c.args.self.now.shards in
    let how : Closing = record { number = c.args.seq; clock = c.args.clock } in
    let born = c.new-born.result in
    let pushed : c.push.new.self.items ≡ xs ++ born ∷ [] =
    c.in_ok-push.ensures.items
    ∙ ap (λ (ss : List ShardState). ss ++ born ∷ []) (ap (λ (t : TreeValue). t.shards) c.self.view_is) in
    merge_value xs c.args.shard c.args.other (c.args.seq + 1) how born _ (
    merges xs c.push.new.self.items c.args.shard c.args.other c.shard.inside.0 c.other.inside.0 c.args.seq c.len.result
    c.seq.inside.0 how c.in-Ok.range born c.index_mut.result.now c.close.new.self c.index_mut-2.result.now
    c.close-2.new.self
    c.in-Ok.ensures c.shard.view_is c.other.view_is c.len.ensures.value c.seq.view_is c.new-born.ensures pushed
    c.index_mut.ensures.value c.close.ensures c.index_mut-2.ensures.value c.close-2.ensures)

pub returns-in-Err-clause-answer : goal.returns-in-Err-clause-answer
returns-in-Err-clause-answer c = refused_answer _ c.in-Err.refusal _ _ c.in-Err.ensures

pub returns-in-Err-clause-value : goal.returns-in-Err-clause-value
returns-in-Err-clause-value c = refused_value _ c.in-Err.refusal _ c.args.self.now.shards _ c.in-Err.ensures

pub index_mut-requires : goal.index_mut-requires
index_mut-requires c =
    let xs = c.args.self.now.shards in
    let born = c.new-born.result in
    let pushed : c.push.new.self.items ≡ xs ++ born ∷ [] =
    c.in_ok-push.ensures.items
    ∙ ap (λ (ss : List ShardState). ss ++ born ∷ []) (ap (λ (t : TreeValue). t.shards) c.self.view_is) in
    let long : vec_len c.push.new.self ≡ length c.push.new.self.items = search rules in
    (both_within xs c.push.new.self.items c.args.shard c.args.other c.shard.inside.0 c.args.other _ c.in-Ok.range _ born
    c.in-Ok.ensures c.shard.view_is refl long pushed).0

pub index_mut-requires-2 : goal.index_mut-requires-2
index_mut-requires-2 c =
    let xs = c.args.self.now.shards in
    let born = c.new-born.result in
    let pushed : c.push.new.self.items ≡ xs ++ born ∷ [] =
    c.in_ok-push.ensures.items
    ∙ ap (λ (ss : List ShardState). ss ++ born ∷ []) (ap (λ (t : TreeValue). t.shards) c.self.view_is) in
    let long : vec_len c.push.new.self ≡ length c.push.new.self.items = search rules in
    (both_within xs c.push.new.self.items c.args.shard c.args.other c.args.shard c.other.inside.0 _ c.in-Ok.range _ born
    c.in-Ok.ensures refl c.other.view_is long pushed).1
