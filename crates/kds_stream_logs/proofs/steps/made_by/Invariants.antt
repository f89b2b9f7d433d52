use Rattle.std.proofs.Common.{◌≡◌, ◌≤◌, ◌+◌, ◌*◌, drop}
use Rattle.kds_defs.specs.ScaleCommands.{made_by}
use Rattle.kds_stream_logs.proofs.steps.made_by.Given as goal

-- The shards counted so far and from the steps left are all; at most two for each step passed.
abbrev pub invariant-loop-step : goal.invariant-loop-step
invariant-loop-step l =
    record {
      all : l.made + made_by (drop l.step-index l.steps) ≡ made_by l.steps;
      few : l.made ≤ 2 * l.step-index;
    }
