use Rattle.std.proofs.Common.{◌≡◌, ◌≤◌, take}
use Rattle.std.specs.Prelude.{count_by}
use Rattle.kds_reply_texts.specs.Bodies.{has_failed}
use Rattle.kds_reply_texts.proofs.put_results.failed_count.Given as goal

-- The count is the number of failed outcomes so far.
abbrev pub invariant-loop-outcome : goal.invariant-loop-outcome
invariant-loop-outcome l = record {
  counted : l.count ≡ count_by has_failed (take l.outcome-index l.outcomes);
  few : l.count ≤ l.outcome-index;
}
