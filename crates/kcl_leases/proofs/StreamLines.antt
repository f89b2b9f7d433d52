-- A line about a stream is about no lease and changes no row and no tenure.
use Rattle.std.proofs.Common.{◌≢◌, List, ◌∷◌, None}
use Rattle.kds_defs.proofs.Elsewhere.{keys_same, row_same, taken_same, tenure_same}
use Rattle.kds_defs.specs.declared.reply.Row.{Row}
use Rattle.kds_defs.specs.Journal.{Journal, Line}
use Rattle.kds_defs.specs.Subjects.{stream_of}
use Rattle.kcl_book.specs.Tenures.{TenureValue}
use Rattle.kcl_leases.proofs.LeaseSteps.{HasRows, HasTenures, rows_of, same_rows, same_tenures, stands_of, tenures_of}
use Rattle.kcl_leases.specs.Standing.{Facing, Stands, leases}

pub rows_beside : (log : Journal) (line : Line) (rows : List Row) → stream_of line.what ≢ None → HasRows log rows
    → HasRows (line ∷ log) rows
rows_beside log line rows is_of has =
    same_rows log line rows (λ keys. keys_same line.what keys is_of)
    (λ key is_before. row_same log line line.what key is_before is_of) has

pub tenures_beside : (log : Journal) (line : Line) (ts : List TenureValue) → stream_of line.what ≢ None
    → HasTenures log ts → HasTenures (line ∷ log) ts
tenures_beside log line ts is_of has =
    same_tenures log line ts (λ n. taken_same line.what n is_of)
    (λ t is_before. tenure_same log line line.what t is_before is_of)
    has

pub stands_beside : (old new : Facing) (rows : List Row) (ts : List TenureValue) (log : Journal) (line : Line)
    → stream_of line.what ≢ None
    → new.shows (line ∷ log) → Stands (leases old rows ts) log → Stands (leases new rows ts) (line ∷ log)
stands_beside old new rows ts log line is_of shows st =
    stands_of new rows ts (line ∷ log) shows (rows_beside log line rows is_of (rows_of old rows ts log st))
    (tenures_beside log line ts is_of (tenures_of old rows ts log st))
