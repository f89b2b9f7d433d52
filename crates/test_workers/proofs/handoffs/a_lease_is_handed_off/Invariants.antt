use Rattle.std.proofs.Common.{◌≡◌, [], None}
use Rattle.test_workers.proofs.handoffs.a_lease_is_handed_off.Given as goal

-- The first pass is as it was dealt except for its turns, and no command waits for its answer.
abbrev pub invariant-loop : goal.invariant-loop
invariant-loop g l = record {
  hall : l.first.hall ≡ l.hall.id;
  by : l.first.by ≡ 1;
  joined : l.first.joined ≡ [];
  free : l.worker.waiting ≡ None;
}
