use Rattle.std.proofs.Common.{◌≡◌, ◌++◌, drop, map}
use Rattle.indexmap.specs.IndexMap.{values}
use Rattle.kds_service.specs.Shown.{names_of}
use Rattle.kds_service.proofs.listing.names_in_order.Given as goal

-- The names so far and from the streams to come are all names.
abbrev pub invariant-loop-i : goal.invariant-loop-i
invariant-loop-i l = map (λ n. n.now) l.names.items ++ names_of (drop l.i (values l.streams))
    ≡ names_of (values l.streams)
