-- Every entry that a text can have has numbers in the ranges on which the judge relies.
use Rattle.std.proofs.Common.{ℕ, ◌+◌, ◌≤◌, Bool, true, false, arith}
use Rattle.kds_defs.specs.declared.entry.Entry.{Entry}
use Rattle.kds_defs.specs.declared.entry.Entry.TheVariants as entry
use Rattle.kds_defs.specs.declared.limits.TheConstants.{RECORD_BYTES}
use Rattle.kcl_journal.specs.Ranges.{AreSizesBy, IsTellable, is_first}
use Rattle.kcl_audit_streams.specs.Verdict.{IsFit}

sizes_fit : (b : Bool) (bytes key_bytes : ℕ) → AreSizesBy b bytes key_bytes → bytes + key_bytes ≤ RECORD_BYTES
sizes_fit true bytes key_bytes h = omega (arith, h.0, h.1)
sizes_fit false bytes key_bytes h = h.1

pub tellable_fit : (v : ℕ) (change : Entry) → IsTellable v change → IsFit change
tellable_fit v (entry.Made s name count) h = h.1.1
tellable_fit v (entry.Put s sh number hash bytes key_bytes) h =
    (h.1.1.1.0, sizes_fit (is_first v) bytes key_bytes h.1.1.1.1)
tellable_fit v (entry.Kept s hours) h = h.1
tellable_fit v (entry.Taken key t counter owner) h = h.1.1.0.0
tellable_fit v (entry.Renewed t counter) h = h.1.0
tellable_fit v (entry.Freed t counter) h = h.1.0
tellable_fit v (entry.Marked t counter target) h = h.1.0.0
tellable_fit v _ h = tt
