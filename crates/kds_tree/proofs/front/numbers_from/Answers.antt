use Rattle.std.proofs.Common.{◌-◌, ◌≤◌, List, ℕ, drop, get_or, length, ltb, refl, rules, arith, subst}
use Rattle.std.proofs.Common.{sym}
use Rattle.std.proofs.lemmas.Bool.{ltb-false, ltb-true}
use Rattle.std.proofs.lemmas.List.Sorted.{IsPartitionPoint-from_clause, IsPartitionedBy-ltb}
use Rattle.kds_tree.specs.Front.{AreLeft}
use Rattle.kds_tree.proofs.FrontLemmas.{names_behind, names_rise}
use Rattle.kds_tree.proofs.front.numbers_from.Goals as goal

pub returns : goal.returns
returns c = λ floor count xs front.
    let names = c.args.numbers.now in
    let t = c.args.start in
    let is_at = c.partition_point-before.result in
    let point = IsPartitionPoint-from_clause (λ (no : ℕ). ltb no t)
    names is_at c.partition_point-before.ensures.partitioned
    (IsPartitionedBy-ltb (λ (no : ℕ). no) names t (names_rise floor 0 count names xs front))
    (λ a r f' q. search rules) in
    let bound : is_at ≤ length names = search rules in
    subst (λ (us : List ℕ). AreLeft floor t (count - t) us (drop t xs)) (sym c.split_at.ensures.back)
    (names_behind floor 0 count t t (count - t) is_at names xs (omega arith) refl
    (λ j d lt within. ltb-true (get_or names j d) t (point.0 j d (omega arith) (omega arith)))
    (λ j d le within. ltb-false (get_or names j d) t (point.1 j d (omega arith) (omega arith)))
    front)
