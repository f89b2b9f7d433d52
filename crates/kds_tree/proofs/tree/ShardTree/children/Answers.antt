use Rattle.std.proofs.Common.{◌≡◌, List, Option, ℕ, map, subst, sym, ap, ◌∙◌}
use Rattle.std.specs.Prelude.{IfOk}
use Rattle.kds_defs.specs.declared.reply.Shard.{Shard}
use Rattle.kds_defs.specs.Shards.{ShardState, children_among, shown}
use Rattle.kds_tree.specs.Families.{AreFamilies}
use Rattle.kds_tree.specs.Tree.{TreeValue}
use Rattle.kds_tree.proofs.tree.ShardTree.children.Goals as goal

pub returns : goal.returns
returns c =
    let xs = c.args.self.now.shards in
    let firsts = c.self.inside.first_children.items in
    let families : AreFamilies firsts xs =
    subst (AreFamilies firsts) (ap (λ (t : TreeValue). t.shards) c.self.view_is) c.self.invariant.families in
    let all : c.deref.result.now ≡ xs = c.deref.ensures.value ∙ ap (λ (t : TreeValue). t.shards) c.self.view_is in
    let is_told = subst (λ (us : List ShardState). AreFamilies c.deref-2.result.now us) (sym all)
    (subst (λ (fs : List (Option ℕ)). AreFamilies fs xs) (sym c.deref-2.ensures.value) families) in
    subst (λ (us : List Shard). IfOk c.children_in.result (λ shards. shards ≡ us))
    (ap (map shown) (c.family_of-family.ensures.all is_told ∙ ap (children_among c.args.no) all)) c.children_in.ensures
