use Rattle.std.proofs.Common.{◌≡◌, List, ℕ, ap, subst, ◌∙◌}
use Rattle.std.specs.Prelude.{IfOk}
use Rattle.kds_tree.specs.Starts.{AreStarts, starting_keys}
use Rattle.kds_tree.specs.Tree.{IsTree, TreeValue}
use Rattle.kds_tree.proofs.Keys.{same_keys}
use Rattle.kds_tree.proofs.Risings.{tree_starts}
use Rattle.kds_tree.proofs.tree.ShardTree.starts.Goals as goal

pub returns-clause-value : goal.returns-clause-value
returns-clause-value c =
    let xs = c.args.self.now.shards in
    let ss = c.self.inside.starts.items in
    let tree : IsTree xs = subst IsTree (ap (λ (t : TreeValue). t.shards) c.self.view_is) c.self.invariant.tree in
    let starts : AreStarts ss xs =
    subst (AreStarts ss) (ap (λ (t : TreeValue). t.shards) c.self.view_is) c.self.invariant.starts in
    subst (λ (ks : List ℕ). IfOk c.keys_of.result (λ keys. keys ≡ ks)) (ap starting_keys c.deref.ensures.value
    ∙ same_keys ss xs starts tree) c.keys_of.ensures

pub returns-clause-partition : goal.returns-clause-partition
returns-clause-partition c =
    tree_starts c.args.self.now.shards
    (subst IsTree (ap (λ (t : TreeValue). t.shards) c.self.view_is) c.self.invariant.tree)
