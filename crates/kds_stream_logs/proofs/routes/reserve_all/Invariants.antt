use Rattle.std.proofs.Common.{◌≡◌, ◌≤◌, ℕ, map, take}
use Rattle.std.specs.List.{count_by}
use Rattle.kds_log.specs.Log.{log_of}
use Rattle.kds_stream_logs.specs.Routes.{is_place_of, reserved_at}
use Rattle.kds_stream_logs.proofs.routes.reserve_all.Given as goal

-- The logs keep their records, and memory is reserved for the places passed.
abbrev pub invariant-loop-place : goal.invariant-loop-place
invariant-loop-place l =
    record {
      same : map log_of l.logs ≡ map log_of l.initial.logs;
      reserved : (sh : ℕ) → count_by (is_place_of sh) (take l.place-index l.places) ≤ reserved_at l.logs sh;
    }
