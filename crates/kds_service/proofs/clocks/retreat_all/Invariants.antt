use Rattle.std.proofs.Common.{◌≡◌, ◌++◌, map, take, drop}
use Rattle.indexmap.specs.IndexMap.{keys, values}
use Rattle.kds_service.specs.Clocks.{retreated}
use Rattle.kds_service.proofs.clocks.retreat_all.Given as goal

-- The streams before `i` are back at what they remembered, and the others are unchanged.
abbrev pub invariant-loop-i : goal.invariant-loop-i
invariant-loop-i l = record {
  value : values l.streams ≡ map retreated (take l.i (values l.initial.streams)) ++ drop l.i (values l.initial.streams);
  keys : keys l.streams ≡ keys l.initial.streams;
}
