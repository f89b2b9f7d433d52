use Rattle.std.proofs.Common.{List, subst, sym, ap, arith}
use Rattle.std.specs.List.{filter}
use Rattle.kds_defs.specs.Shards.{is_open, home_among}
use Rattle.kds_tree.specs.Starts.{AreStarts}
use Rattle.kds_tree.specs.Tree.{IsTree, TreeValue}
use Rattle.kds_tree.specs.declared.start.OpenStart.{OpenStart}
use Rattle.kds_tree.proofs.Homes.{home_is, only_home}
use Rattle.kds_tree.proofs.tree.ShardTree.home.Goals as goal

pub returns-clause-found : goal.returns-clause-found
returns-clause-found c =
    let xs = c.args.self.now.shards in
    let tree : IsTree xs = subst IsTree (ap (λ (t : TreeValue). t.shards) c.self.view_is) c.self.invariant.tree in
    let starts : AreStarts c.self.inside.starts.items xs =
    subst (AreStarts c.self.inside.starts.items) (ap (λ (t : TreeValue). t.shards) c.self.view_is)
    c.self.invariant.starts in
    c.home_of.ensures xs tree (subst (λ (ss : List OpenStart). AreStarts ss xs) (sym c.deref.ensures.value) starts)

pub returns-clause-value : goal.returns-clause-value
returns-clause-value c =
    let xs = c.args.self.now.shards in
    let tree : IsTree xs = subst IsTree (ap (λ (t : TreeValue). t.shards) c.self.view_is) c.self.invariant.tree in
    only_home xs c.args.hash c.home_of.result (home_among (filter is_open xs) c.args.hash) tree (omega arith)
    (returns-clause-found c) (home_is xs c.args.hash tree (omega arith))

pub returns-clause-only : goal.returns-clause-only
returns-clause-only c = λ sh home.
    let xs = c.args.self.now.shards in
    let tree : IsTree xs = subst IsTree (ap (λ (t : TreeValue). t.shards) c.self.view_is) c.self.invariant.tree in
    only_home xs c.args.hash sh c.home_of.result tree (omega arith) home (returns-clause-found c)
