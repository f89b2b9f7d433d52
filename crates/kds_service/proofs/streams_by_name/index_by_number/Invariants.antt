use Rattle.std.proofs.Common.{◌≡◌, ◌==◌, drop}
use Rattle.std.specs.List.{position_from}
use Rattle.indexmap.specs.IndexMap.{values}
use Rattle.kds_service.specs.Indexes.{index_by_number}
use Rattle.kds_service.specs.Shown.{numbers_of}
use Rattle.kds_service.proofs.streams_by_name.index_by_number.Given as goal

-- The search from `i` on finds what the search among all streams finds.
abbrev pub invariant-loop-i : goal.invariant-loop-i
invariant-loop-i l = position_from (λ n. n == l.no) l.i (numbers_of (drop l.i (values l.streams)))
    ≡ index_by_number (values l.streams) l.no
