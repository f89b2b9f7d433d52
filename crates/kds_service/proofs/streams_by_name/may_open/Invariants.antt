use Rattle.std.proofs.Common.{◌≡◌, ◌+◌, drop}
use Rattle.kds_defs.specs.declared.limits.TheConstants.{OPEN_SHARDS}
use Rattle.indexmap.specs.IndexMap.{values}
use Rattle.kds_service.specs.Indexes.{open_total}
use Rattle.kds_service.proofs.streams_by_name.may_open.Given as goal

-- What is left is OPEN_SHARDS less `more` and the open shards of the streams before `i`.
abbrev pub invariant-loop-i : goal.invariant-loop-i
invariant-loop-i l = l.left + open_total (values l.streams) + l.more
    ≡ OPEN_SHARDS + open_total (drop l.i (values l.streams))
