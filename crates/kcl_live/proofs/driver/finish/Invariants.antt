use Rattle.std.proofs.Common.{◌≡◌, ◌*◌, ◌-◌, ◌≤◌, None, length}
use Rattle.kcl_worker_lists.specs.Lists.{due_in}
use Rattle.kds_turn.specs.Known.{Continues}
use Rattle.kcl_live.specs.Records.{AreOnLeasesAt}
use Rattle.kcl_live.specs.Steps.{IsFinishing}
use Rattle.kcl_live.proofs.driver.finish.Given as goal

-- The stopped worker made each turn at its moment, at least `turns` and at most 3 * `turns`; no call is due.
abbrev pub invariant-loop-at : goal.invariant-loop-at
invariant-loop-at g l = record {
  kept : (l.pass.hall ≡ l.fn.pass.hall) × (l.pass.by ≡ l.fn.pass.by) × (l.pass.joined ≡ l.fn.pass.joined);
  made : l.worker.made ≡ l.fn.worker.made;
  seen : Continues l.pass.seen l.fn.pass.seen;
  free : l.worker.waiting ≡ None;
  none_due : due_in l.worker.consumers ≡ None;
  finishing : IsFinishing g.P.Processor.stands_for l.worker l.pass (3 * l.turns);
  moments : AreOnLeasesAt l.tick l.pass.own;
  at : l.at ≡ length l.pass.own * l.tick;
  least : l.turns ≤ length l.pass.own;
}

abbrev pub decreases-loop-at : goal.decreases-loop-at
decreases-loop-at g l = 3 * l.turns - length l.pass.own
