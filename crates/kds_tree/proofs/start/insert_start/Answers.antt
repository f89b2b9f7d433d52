use Rattle.std.proofs.Common.{◌≡◌, ◌∷◌, [], ◌++◌, List, nat_lt, rules, subst, sym, arith}
use Rattle.std.specs.List.{insert}
use Rattle.std.specs.List.Sorted.{IsNonDecreasingBy, IsPermutation}
use Rattle.std.proofs.lemmas.Bool.{ltb-false, ltb-true}
use Rattle.std.proofs.lemmas.List.Sorted.{IsPartitionPoint-from_clause, IsPartitionedBy-ltb}
use Rattle.std.proofs.lemmas.List.Sorted.{IsNonDecreasingBy-insert, IsPermutation-append_comm, IsPermutation-insert}
use Rattle.std.proofs.lemmas.List.Sorted.{IsPermutation-trans}
use Rattle.kds_tree.specs.declared.start.OpenStart.{OpenStart}
use Rattle.kds_tree.proofs.start.insert_start.Goals as goal

pub returns-clause-same : goal.returns-clause-same
returns-clause-same c =
    let ss = c.args.starts.now.items in
    let s = c.args.start in
    let i = c.partition_point-index.result in
    let is : c.insert.new.self.items ≡ insert ss i s = search rules in
    subst (IsPermutation (ss ++ s ∷ [])) (sym is)
    (IsPermutation-trans (ss ++ s ∷ []) (s ∷ ss) (insert ss i s) (IsPermutation-append_comm ss (s ∷ []))
    (IsPermutation-insert ss i s))

pub returns-clause-order : goal.returns-clause-order
returns-clause-order c =
    let ss = c.deref.result.now in
    let s = c.args.start in
    let i = c.partition_point-index.result in
    let as_slice : c.args.starts.now.items ≡ ss = search rules in
    let is : c.insert.new.self.items ≡ insert ss i s = search (rules, as_slice) in
    let order = subst (λ (ts : List OpenStart). IsNonDecreasingBy (λ (t : OpenStart). t.key) ts) as_slice
    c.requires.order in
    let point = IsPartitionPoint-from_clause (λ (t : OpenStart). nat_lt t.key s.key) ss i
    c.partition_point-index.ensures.partitioned
    (IsPartitionedBy-ltb (λ (t : OpenStart). t.key) ss s.key order) (λ a r f' k. search rules) in
    subst (λ (ts : List OpenStart). IsNonDecreasingBy (λ (t : OpenStart). t.key) ts) (sym is)
    (IsNonDecreasingBy-insert (λ (t : OpenStart). t.key) ss i s order c.partition_point-index.ensures.bound
    (λ k d low. let below = ltb-true _ _ (point.0 k d (omega arith) low) in omega arith)
    (λ k d high within. ltb-false _ _ (point.1 k d high within)))
