use Rattle.std.proofs.Common.{◌≡◌, ◌++◌, drop}
use Rattle.indexmap.specs.IndexMap.{values}
use Rattle.kds_service.specs.Keyed.{listed_keys}
use Rattle.kds_service.proofs.lease_keys.listed.Given as goal

-- The keys so far and the listed keys of the streams to come are all listed keys.
abbrev pub invariant-loop-i : goal.invariant-loop-i
invariant-loop-i l = l.keys ++ listed_keys (drop l.i (values l.streams)) ≡ listed_keys (values l.streams)
