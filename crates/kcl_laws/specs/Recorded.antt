-- The sequence numbers and sizes of a shard's records, and whether any has a given number or a greater one.
use Rattle.std.specs.Prelude.{ℕ, ◌+◌, ◌≡◌, ◌≤◌, ◌⊎◌, List, [], ◌∷◌, length, Some}
use Rattle.kds_base.specs.declared.lease_key.ShardRef.{ShardRef}
use Rattle.kds_defs.specs.declared.command.Origin.TheVariants.{TrimHorizon}
use Rattle.kds_defs.specs.declared.reply.Row.{Row}
use Rattle.kds_defs.specs.Leases.{origin_of, row}
use Rattle.kds_defs.specs.declared.limits.TheConstants.{BATCH_BYTES}
use Rattle.kds_defs.specs.Journal.{Journal}
use Rattle.kds_defs.specs.Records.{Logged, records, next_number}
use Rattle.kds_defs.specs.Shards.{shard_at, start_of}

-- The sequence numbers rise strictly, from `first` on and below `next`; without records, `first` is at most `next`.
abbrev pub RiseBetween : (first : ℕ) (rs : List Logged) (next : ℕ) → Type 0
RiseBetween first [] next = first ≤ next
RiseBetween first (r ∷ rs) next = (first ≤ r.seq) × RiseBetween (r.seq + 1) rs next

-- A shard's sequence numbers rise strictly, from the shard's starting one on and below the stream's next one.
abbrev pub AreDrawn : (log : Journal) (s sh : ℕ) → Type 0
AreDrawn log s sh = RiseBetween (start_of (shard_at log s sh)) (records log s sh) (next_number log s)

-- The byte count is correct, and at most what one batch may have (Kinesis API Reference, GetRecords).
abbrev pub IsSized : (r : Logged) → Type 0
IsSized r = (r.bytes ≡ length r.payload + length r.key) × (r.bytes ≤ BATCH_BYTES)

-- The record with an empty key and an empty payload.
abbrev pub bare : (r : Logged) → Logged
bare r = record r { key = []; payload = [] }

-- One of the records has the sequence number `q` or a greater one.
abbrev pub HasFrom : (q : ℕ) (rs : List Logged) → Type 0
HasFrom q [] = ⊥
HasFrom q (r ∷ rs) = (q ≤ r.seq) ⊎ HasFrom q rs

-- The row of the key is `r`, and its origin is the trim horizon.
abbrev pub IsFromHorizon : (log : Journal) (key : ShardRef) (r : Row) → Type 0
IsFromHorizon log key r = (row log key ≡ Some r) × (origin_of log key ≡ Some TrimHorizon)
