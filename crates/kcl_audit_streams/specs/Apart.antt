-- A stream's records in one list for each shard.
use Rattle.std.specs.Prelude.{ℕ, ◌≡◌, List, [], slice_get, Option, Some, None}
use Rattle.std.specs.List.{filter}
use Rattle.kcl_audit_streams.specs.declared.records.Sized.{Sized}
use Rattle.kcl_audit_streams.specs.Standing.{is_in}

-- The records, or none if nothing was found.
abbrev pub records_or_none : (rs : Option (List Sized)) → List Sized
records_or_none None = []
records_or_none (Some rs) = rs

-- The records in the shard's list, none if there is no such list.
abbrev pub records_at : (shards : List (List Sized)) (sh : ℕ) → List Sized
records_at shards sh = records_or_none (slice_get shards sh)

-- Each shard's list has its records in order; a shard without list has none.
abbrev pub AreApart : (shards : List (List Sized)) (all : List Sized) → Type 0
AreApart shards all = (sh : ℕ) → records_at shards sh ≡ filter (is_in sh) all
