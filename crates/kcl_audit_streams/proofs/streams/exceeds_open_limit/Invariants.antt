use Rattle.std.proofs.Common.{◌≡◌, ◌+◌, ◌≤◌, drop}
use Rattle.kds_defs.specs.declared.limits.TheConstants.{OPEN_SHARDS}
use Rattle.kcl_audit_streams.specs.Living.{open_among}
use Rattle.kcl_audit_streams.proofs.streams.exceeds_open_limit.Given as goal

-- `l.open` plus the open shards still to come is the total plus `l.more`, and is within OPEN_SHARDS.
abbrev pub invariant-loop-no : goal.invariant-loop-no
invariant-loop-no l =
    (l.open + open_among l.streams (drop l.no-index l.numbers) ≡ open_among l.streams l.numbers + l.more)
    × (l.open ≤ OPEN_SHARDS)
