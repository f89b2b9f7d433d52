-- The value of a shard's log in contracts, the order of its records, and what is read from them.
use Rattle.std.specs.Prelude.{◌≡◌, ℕ, ◌+◌, ◌<◌, ◌≤◌, nat_le, List, [], ◌∷◌, ◌++◌, length, Option, Some, None}
use Rattle.std.specs.List.{AllByRecursion, Contains, filter}
use Rattle.kds_defs.specs.Records.{Logged}

-- A log: the records kept, and the greatest sequence number ever appended, if any.
pub record LogValue : Type 0 where
  pub kept : List Logged
  pub last : Option ℕ

-- A log with the number of further records for which memory is reserved.
pub record LogWithReserve : Type 0 where
  pub kept : List Logged
  pub last : Option ℕ
  pub reserved : ℕ

-- The log without its reserved memory.
abbrev pub log_of : (l : LogWithReserve) → LogValue
log_of l = record { kept = l.kept; last = l.last }

-- ---- Order

-- The record `a` is before `b`: it has a lower sequence number, and it didn't arrive later.
abbrev pub IsBefore : (a b : Logged) → Type 0
IsBefore a b = (a.seq < b.seq) × (a.arrival ≤ b.arrival)

-- Each record is before all that follow it.
abbrev pub AreInOrder : (rs : List Logged) → Type 0
AreInOrder [] = Unit {0}
AreInOrder (r ∷ rs) = AllByRecursion (IsBefore r) rs × AreInOrder rs

-- There is a last sequence number, and the record isn't above it.
abbrev pub IsUpTo : (n : Option ℕ) (r : Logged) → Type 0
IsUpTo None r = ⊥
IsUpTo (Some n) r = r.seq ≤ n

-- The records are in order, and no sequence number is above the greatest one ever appended.
pub record IsOrderly (log : LogValue) : Type 0 where
  pub order : AreInOrder log.kept
  pub numbers : AllByRecursion (IsUpTo log.last) log.kept

-- ---- What is read from records

-- The time at which the first record arrived, or `None` if there is none.
abbrev pub first_arrival : (rs : List Logged) → Option ℕ
first_arrival [] = None
first_arrival (r ∷ rs) = Some r.arrival

-- The sequence number of the first record, or `None` if there is none.
abbrev pub first_number : (rs : List Logged) → Option ℕ
first_number [] = None
first_number (r ∷ rs) = Some r.seq

-- The records that arrived at `moment` or later.
abbrev pub since : (moment : ℕ) (rs : List Logged) → List Logged
since moment rs = filter (λ r. nat_le moment r.arrival) rs

-- The option has the least of these numbers, or there are none and it is `None`.
abbrev pub IsLeast : (ns : List ℕ) (n : Option ℕ) → Type 0
IsLeast ns None = ns ≡ []
IsLeast ns (Some n) = Contains ns n × AllByRecursion (λ m. n ≤ m) ns

-- ---- Batches

-- The bytes of the records' payloads and keys together.
abbrev pub bytes_in : (rs : List Logged) → ℕ
bytes_in [] = 0
bytes_in (r ∷ rs) = r.bytes + bytes_in rs

-- The records are within the limits of a batch: at most `limit` records and `room` bytes.
abbrev pub IsWithin : (limit room : ℕ) (rs : List Logged) → Type 0
IsWithin limit room rs = (length rs ≤ limit) × (bytes_in rs ≤ room)

-- The records `front` are the first ones of `rs`.
abbrev pub IsPrefix : (front rs : List Logged) → Type 0
IsPrefix front rs = (rest : List Logged) × (rs ≡ front ++ rest)

-- There is a first record, and its payload and key have at most `room` bytes.
abbrev pub FirstFits : (room : ℕ) (rs : List Logged) → Type 0
FirstFits room [] = ⊥
FirstFits room (r ∷ rs) = r.bytes ≤ room
