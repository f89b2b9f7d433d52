use Rattle.std.proofs.Common.{◌≡◌, ◌≤◌, ◌+◌, ◌++◌, map}
use Rattle.std.specs.Prelude.{replicate, vec_capacity, vec_len}
use Rattle.kds_log.specs.Log.{log_of}
use Rattle.kds_stream_logs.specs.Steps.{AreMore}
use Rattle.kds_stream_logs.specs.Logs.{empty_log}
use Rattle.kds_stream_logs.proofs.steps.add_shards.Given as goal

-- Each round has added one empty log and one unused window, and memory is left for the rest.
abbrev pub invariant-loop-i : goal.invariant-loop-i
invariant-loop-i l =
    record {
      logs_are : map log_of l.logs.items ≡ map log_of l.initial.logs.items ++ replicate l._i empty_log;
      windows_are : AreMore l._i l.initial.windows.items l.windows.items;
      logs_fit : vec_len l.logs + l.made ≤ vec_capacity l.logs + l._i;
      windows_fit : vec_len l.windows + l.made ≤ vec_capacity l.windows + l._i;
    }
