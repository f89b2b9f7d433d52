use Rattle.std.proofs.Common.{◌∙◌, ◌++◌, List, drop, length, subst, sym, ap, arith}
use Rattle.std.proofs.lemmas.Result.{on_ok_weaker}
use Rattle.kds_defs.specs.Listings.{refs_of}
use Rattle.kds_defs.specs.Shards.{ShardState, listed_among}
use Rattle.kds_defs.specs.Streams.{floor_of}
use Rattle.kds_tree.specs.Front.{AreLeft, picked}
use Rattle.kds_tree.specs.Tree.{TreeValue}
use Rattle.kds_tree.proofs.FrontLemmas.{keys_left, left_within}
use Rattle.kds_tree.proofs.tree.ShardTree.add_listed.Goals as goal

pub split_at-requires : goal.split_at-requires
split_at-requires c =
    let front = c.skipped_at-skipped.ensures
    (subst (AreLeft (floor_of c.self.inside.front.cut) 0 c.self.inside.front.count c.self.inside.front.left.items)
    (sym c.deref.ensures.value) c.self.invariant.front) in
    let within = left_within (floor_of c.args.cut) 0 c.skipped_at-skipped.result.0 c.skipped_at-skipped.result.1.now
    c.deref.result.now front in
    omega (
      arith,
      within,
      ap (length {A = ShardState}) c.deref.ensures.value,
      ap (length {A = ShardState}) c.deref-3.ensures.value,
    )

pub returns : goal.returns
returns c =
    let s = c.args.stream in
    let f = floor_of c.args.cut in
    let xs = c.args.self.now.shards in
    let is = ap (λ (t : TreeValue). t.shards) c.self.view_is in
    let count = c.skipped_at-skipped.result.0 in
    let left = c.skipped_at-skipped.result.1.now in
    let front : AreLeft f 0 count left xs = subst (AreLeft f 0 count left) (c.deref.ensures.value ∙ is)
    (c.skipped_at-skipped.ensures
    (subst (AreLeft (floor_of c.self.inside.front.cut) 0 c.self.inside.front.count c.self.inside.front.left.items)
    (sym c.deref.ensures.value) c.self.invariant.front)) in
    let named = c.in_ok-add_numbers.ensures
    ∙ ap (λ (us : List ShardState). c.args.keys.now ++ refs_of s (listed_among f (picked left us)))
    (c.deref-2.ensures.value ∙ is) in
    let rest = c.split_at.ensures.back ∙ ap (drop count) (c.deref-3.ensures.value ∙ is) in
    on_ok_weaker c.add_rest.result
    (λ added. keys_left s f count left xs c.args.keys.now c.add_numbers.new.keys c.add_rest.new.keys front named
    (added ∙ ap (λ (us : List ShardState). c.add_numbers.new.keys ++ refs_of s (listed_among f us)) rest))
    c.add_rest.ensures
