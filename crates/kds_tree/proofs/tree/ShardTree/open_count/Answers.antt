use Rattle.std.proofs.Common.{◌≡◌, length, ap, subst, ◌∙◌, rules}
use Rattle.std.specs.Prelude.{min, ◌-◌, ◌^◌}
use Rattle.kds_tree.proofs.OpenStarts.{open_many}
use Rattle.kds_tree.specs.Starts.{AreStarts}
use Rattle.kds_tree.specs.Tree.{TreeValue}
use Rattle.kds_tree.proofs.tree.ShardTree.open_count.Goals as goal

pub returns : goal.returns
returns c =
    let ss = c.self.inside.starts.items in
    let starts : AreStarts ss c.args.self.now.shards =
    subst (AreStarts ss) (ap (λ (t : TreeValue). t.shards) c.self.view_is) c.self.invariant.starts in
    let many = open_many ss c.args.self.now.shards starts in
    let len : c.len.result ≡ length ss = search rules in
    c.min.ensures ∙ ap (λ n. min n (2 ^ 32 - 1)) (len ∙ many)
