use Rattle.std.proofs.Common.{◌≡◌, map, drop}
use Rattle.kds_defs.specs.Streams.{floor_of}
use Rattle.kds_log.specs.Log.{log_of}
use Rattle.kds_stream_logs.specs.Routes.{settled_each}
use Rattle.kds_stream_logs.proofs.routes.settle_each.Given as goal

-- Settling at the places that are left makes the logs settled at all places.
abbrev pub invariant-loop-place : goal.invariant-loop-place
invariant-loop-place l = settled_each (floor_of l.cut) (drop l.place-index l.places) (map log_of l.logs)
    ≡ settled_each (floor_of l.cut) l.places (map log_of l.initial.logs)
