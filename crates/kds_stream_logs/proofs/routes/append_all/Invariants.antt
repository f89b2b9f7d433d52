use Rattle.std.proofs.Common.{◌≡◌, length, map}
use Rattle.kds_log.specs.Log.{log_of}
use Rattle.kds_stream_logs.specs.Routes.{CanTakeAll, with_each}
use Rattle.kds_stream_logs.proofs.routes.append_all.Given as goal

-- The logs can take the records that are left, and with them are the logs that all records make.
abbrev pub invariant-loop-next : goal.invariant-loop-next
invariant-loop-next l =
    record {
      can : CanTakeAll l.logs l.routed.items;
      goes_on : with_each l.routed.items (map log_of l.logs)
          ≡ with_each l.initial.routed.items (map log_of l.initial.logs);
    }

-- Each round appends one of the records that are left.
abbrev pub decreases-loop-next : goal.decreases-loop-next
decreases-loop-next l = length l.routed.items
