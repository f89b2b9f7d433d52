use Rattle.std.proofs.Common.{◌≡◌, None, length}
use Rattle.kds_turn.specs.Known.{Continues}
use Rattle.kcl_live.specs.Records.{AreOnLeasesAt}
use Rattle.kcl_live.specs.Steps.{IsGoing}
use Rattle.kcl_live.proofs.driver.drive.Given as goal

-- In `k` rounds the worker made `k` turns, each at its moment, and it is still going.
abbrev pub invariant-loop-k : goal.invariant-loop-k
invariant-loop-k g l = record {
  kept : (l.pass.hall ≡ l.fn.pass.hall) × (l.pass.by ≡ l.fn.pass.by) × (l.pass.joined ≡ l.fn.pass.joined);
  made : l.worker.made ≡ l.fn.worker.made;
  seen : Continues l.pass.seen l.fn.pass.seen;
  free : l.worker.waiting ≡ None;
  going : IsGoing g.P.Processor.stands_for l.worker l.pass;
  moments : AreOnLeasesAt l.tick l.pass.own;
  count : length l.pass.own ≡ l.k;
}
