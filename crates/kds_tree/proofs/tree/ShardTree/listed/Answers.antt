use Rattle.std.proofs.Common.{◌≡◌, ◌∙◌, ◌++◌, List, drop, length, subst, sym, take, ap, arith}
use Rattle.std.specs.Prelude.{IfOk}
use Rattle.std.specs.List.{filter}
use Rattle.kds_defs.specs.declared.reply.Shard.{Shard}
use Rattle.kds_defs.specs.Listings.{are_more, is_after_shard}
use Rattle.kds_defs.specs.Shards.{ShardState}
use Rattle.kds_defs.specs.Streams.{floor_of}
use Rattle.kds_tree.specs.Front.{AreLeft, listing, picked}
use Rattle.kds_tree.specs.Tree.{IsTree, TreeValue}
use Rattle.kds_tree.proofs.FrontLemmas.{left_within, listing_left}
use Rattle.kds_tree.proofs.tree.ShardTree.listed.Goals as goal

pub split_at-requires : goal.split_at-requires
split_at-requires c =
    let names = c.self.inside.front.left.items in
    let front = c.skipped_at-skipped.ensures
    (subst (AreLeft (floor_of c.self.inside.front.cut) 0 c.self.inside.front.count names) (sym c.deref.ensures.value)
    c.self.invariant.front) in
    let within = left_within (floor_of c.args.cut) 0 c.skipped_at-skipped.result.0 c.skipped_at-skipped.result.1.now
    c.deref.result.now front in
    omega (
      arith,
      within,
      c.start_behind-start.ensures.there,
      c.max.ensures,
      ap (length {A = ShardState}) c.deref.ensures.value,
      ap (length {A = ShardState}) c.deref-2.ensures.value,
      ap (length {A = ShardState}) c.deref-3.ensures.value,
    )

pub returns-clause-shards : goal.returns-clause-shards
returns-clause-shards c =
    let xs = c.args.self.now.shards in
    let is = ap (λ (t : TreeValue). t.shards) c.self.view_is in
    let tree : IsTree xs = subst IsTree is c.self.invariant.tree in
    let count = c.skipped_at-skipped.result.0 in
    let left = c.skipped_at-skipped.result.1.now in
    let start = c.start_behind-start.result in
    let names = c.numbers_from-numbers.result.now in
    let front = c.skipped_at-skipped.ensures
    (subst (AreLeft (floor_of c.self.inside.front.cut) 0 c.self.inside.front.count c.self.inside.front.left.items)
    (sym c.deref.ensures.value) c.self.invariant.front) in
    let front' : AreLeft (floor_of c.args.cut) 0 count left xs =
    subst (AreLeft (floor_of c.args.cut) 0 count left) (c.deref.ensures.value ∙ is) front in
    let is_from = c.numbers_from-numbers.ensures (floor_of c.args.cut) count xs front' in
    let all = c.deref-2.ensures.value ∙ is in
    let behind = ap (drop start) (sym all)
    ∙ c.start_behind-start.ensures.behind (subst (λ (us : List ShardState). IsTree us) (sym all) tree).numbered
    ∙ ap (filter (is_after_shard c.args.after)) all in
    subst (λ (us : List Shard). IfOk c.page_of.result (λ r. r.0 ≡ take c.args.limit us))
    (ap (λ (us : List ShardState). listing c.args.cut (picked names us ++ c.split_at.result.1.now))
    (c.deref-4.ensures.value ∙ is)
    ∙ ap (λ (us : List ShardState). listing c.args.cut (picked names xs ++ us)) (c.split_at.ensures.back
    ∙ ap (drop c.max.result) (c.deref-3.ensures.value ∙ is))
    ∙ listing_left c.args.cut c.args.after xs names count start c.max.result is_from c.max.ensures behind)
    c.page_of.ensures.shards

pub returns-clause-more : goal.returns-clause-more
returns-clause-more c =
    let xs = c.args.self.now.shards in
    let is = ap (λ (t : TreeValue). t.shards) c.self.view_is in
    let tree : IsTree xs = subst IsTree is c.self.invariant.tree in
    let count = c.skipped_at-skipped.result.0 in
    let left = c.skipped_at-skipped.result.1.now in
    let start = c.start_behind-start.result in
    let names = c.numbers_from-numbers.result.now in
    let front = c.skipped_at-skipped.ensures
    (subst (AreLeft (floor_of c.self.inside.front.cut) 0 c.self.inside.front.count c.self.inside.front.left.items)
    (sym c.deref.ensures.value) c.self.invariant.front) in
    let front' : AreLeft (floor_of c.args.cut) 0 count left xs =
    subst (AreLeft (floor_of c.args.cut) 0 count left) (c.deref.ensures.value ∙ is) front in
    let is_from = c.numbers_from-numbers.ensures (floor_of c.args.cut) count xs front' in
    let all = c.deref-2.ensures.value ∙ is in
    let behind = ap (drop start) (sym all)
    ∙ c.start_behind-start.ensures.behind (subst (λ (us : List ShardState). IsTree us) (sym all) tree).numbered
    ∙ ap (filter (is_after_shard c.args.after)) all in
    subst (λ (us : List Shard). IfOk c.page_of.result (λ r. r.1 ≡ are_more c.args.limit us))
    (ap (λ (us : List ShardState). listing c.args.cut (picked names us ++ c.split_at.result.1.now))
    (c.deref-4.ensures.value ∙ is)
    ∙ ap (λ (us : List ShardState). listing c.args.cut (picked names xs ++ us)) (c.split_at.ensures.back
    ∙ ap (drop c.max.result) (c.deref-3.ensures.value ∙ is))
    ∙ listing_left c.args.cut c.args.after xs names count start c.max.result is_from c.max.ensures behind)
    c.page_of.ensures.more
