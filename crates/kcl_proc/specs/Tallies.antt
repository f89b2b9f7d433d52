-- A tally's counts of records and payload bytes.
use Rattle.std.specs.Prelude.{ℕ, ◌+◌, ◌-◌, ◌^◌, min, List, [], ◌∷◌, length, sum_by}
use Rattle.kcl_defs.specs.declared.consumer.Call.{Call}
use Rattle.kcl_defs.specs.declared.consumer.Call.TheVariants as call
use Rattle.kds_defs.specs.declared.reply.Stored.{Stored}

-- A tally's counts of records and of their payload bytes.
pub record Counts : Type 0 where
  pub records : ℕ
  pub bytes : ℕ

-- The payload bytes of a batch.
abbrev pub payload_bytes : (batch : List Stored) → ℕ
payload_bytes batch = sum_by (λ r. length r.payload) batch

-- The number of records in all batches of the calls.
abbrev pub records_in : (calls : List Call) → ℕ
records_in [] = 0
records_in (call.Process batch ∷ calls) = records_in calls + length batch
records_in (_ ∷ calls) = records_in calls

-- The payload bytes in all batches of the calls.
abbrev pub bytes_in : (calls : List Call) → ℕ
bytes_in [] = 0
bytes_in (call.Process batch ∷ calls) = bytes_in calls + payload_bytes batch
bytes_in (_ ∷ calls) = bytes_in calls

-- The greatest count; a count that reaches it stays there.
abbrev pub most : ℕ
most = 2 ^ 64 - 1

-- A tally's counts after the calls, each at most `most`.
abbrev pub counts_of : (calls : List Call) → Counts
counts_of calls = record { records = min (records_in calls) most; bytes = min (bytes_in calls) most }
