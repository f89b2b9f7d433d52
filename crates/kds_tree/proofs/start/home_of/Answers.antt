use Rattle.std.proofs.Common.{◌≡◌, ◌-◌, ◌≤◌, length, get_or, leb, rules, arith}
use Rattle.std.proofs.lemmas.List.Sorted.{IsPartitionPoint-from_clause, IsPartitionedBy-leb}
use Rattle.kds_tree.specs.declared.start.OpenStart.{OpenStart}
use Rattle.kds_tree.proofs.HomeStarts.{found, some_start}
use Rattle.kds_tree.proofs.start.home_of.Goals as goal

pub returns-in-Some : goal.returns-in-Some
returns-in-Some c = λ xs tree starts.
    let ss = c.args.starts.now in
    let k = c.args.hash in
    let i = c.partition_point-after.result in
    let point = IsPartitionPoint-from_clause (λ (s : OpenStart). leb s.key k)
    ss i c.partition_point-after.ensures.partitioned
    (IsPartitionedBy-leb (λ (s : OpenStart). s.key) ss k starts.order) (λ a r f' q. search rules) in
    let is_at : c.saturating_sub.result ≡ i - 1 = search rules in
    let is : c.in-Some.start.now ≡ get_or ss c.saturating_sub.result c.in-Some.start.now = search rules in
    let bound : i ≤ length ss = search rules in
    let within = some_start xs ss k i tree starts (omega arith) point bound c.saturating_sub.result is_at in
    found xs ss k i tree starts (omega arith) point bound c.in-Some.start.now c.saturating_sub.result is_at within is

pub returns-in-None : goal.returns-in-None
returns-in-None c = λ xs tree starts.
    let ss = c.args.starts.now in
    let k = c.args.hash in
    let i = c.partition_point-after.result in
    let point = IsPartitionPoint-from_clause (λ (s : OpenStart). leb s.key k)
    ss i c.partition_point-after.ensures.partitioned
    (IsPartitionedBy-leb (λ (s : OpenStart). s.key) ss k starts.order) (λ a r f' q. search rules) in
    let is_at : c.saturating_sub.result ≡ i - 1 = search rules in
    let bound : i ≤ length ss = search rules in
    let over : length ss ≤ c.saturating_sub.result = search rules in
    absurd (omega (
      arith,
      over,
      some_start xs ss k i tree starts (omega arith) point bound c.saturating_sub.result is_at,
    ))
