use Rattle.std.proofs.Common.{◌≡◌, ◌++◌, map, take, drop}
use Rattle.indexmap.specs.IndexMap.{keys, values}
use Rattle.kds_defs.specs.Journal.{Journal}
use Rattle.kds_service.specs.Clocks.{advanced}
use Rattle.kds_service.specs.Shown.{AreShown}
use Rattle.kds_service.proofs.clocks.advance_all.Given as goal

-- The streams before `i` are at the new clock, the others unchanged; all show the same journals as before.
abbrev pub invariant-loop-i : goal.invariant-loop-i
invariant-loop-i l = record {
  value : values l.streams ≡ map (advanced l.clock) (take l.i (values l.initial.streams))
      ++ drop l.i (values l.initial.streams);
  keys : keys l.streams ≡ keys l.initial.streams;
  shows : (log : Journal) → AreShown log (values l.initial.streams) → AreShown log (values l.streams);
}
