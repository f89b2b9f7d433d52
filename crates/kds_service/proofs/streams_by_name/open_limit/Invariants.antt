use Rattle.std.proofs.Common.{◌≡◌, drop}
use Rattle.std.specs.Prelude.{◌-◌}
use Rattle.kds_defs.specs.declared.limits.TheConstants.{OPEN_SHARDS}
use Rattle.indexmap.specs.IndexMap.{values}
use Rattle.kds_service.specs.Indexes.{open_beside}
use Rattle.kds_service.proofs.streams_by_name.open_limit.Given as goal

-- The limit is what is left less the open shards of the other streams to come.
abbrev pub invariant-loop-i : goal.invariant-loop-i
invariant-loop-i l = l.left - open_beside (drop l.i (values l.streams)) l.no
    ≡ OPEN_SHARDS - open_beside (values l.streams) l.no
