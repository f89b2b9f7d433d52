-- A worker's notes on seen rows: key, counter, and when this counter was first seen, in key order.
use Rattle.std.specs.Prelude.{ℕ, suc, ◌≡◌, true, ◌==◌, if◌then◌else◌, List, [], ◌∷◌, Option, Some, None}
use Rattle.std.specs.List.{AllByRecursion}
use Rattle.kds_base.specs.declared.lease_key.ShardRef.{ShardRef}
use Rattle.kcl_defs.specs.declared.plans.Seen.{Seen}
use Rattle.kds_defs.specs.declared.reply.Row.{Row}
use Rattle.kds_defs.specs.Keys.{is_before, same_key}

-- The note on row `r` if its present counter is first seen at `now`.
abbrev pub first_note : (r : Row) (now : ℕ) → Seen
first_note r now = record { key = r.key; counter = r.counter; since = now }

-- `key` comes before the keys of all notes.
abbrev pub IsBeforeAll : (key : ShardRef) (seen : List Seen) → Type 0
IsBeforeAll key seen = AllByRecursion (λ (s : Seen). is_before key s.key ≡ true) seen

-- The keys of the notes rise strictly.
abbrev pub AreInOrder : (seen : List Seen) → Type 0
AreInOrder [] = Unit {0}
AreInOrder (s ∷ seen) = IsBeforeAll s.key seen × AreInOrder seen

-- The number of leading notes before `key`; with rising keys, the index where its note is or goes.
abbrev pub index_of : (key : ShardRef) (seen : List Seen) → ℕ
index_of key [] = 0
index_of key (s ∷ seen) = if is_before s.key key then suc (index_of key seen) else 0

-- The note, if it has the key `key`.
abbrev pub if_key : (key : ShardRef) (s : Option Seen) → Option Seen
if_key key None = None
if_key key (Some s) = if same_key s.key key then Some s else None

-- The notes after a row was seen: an older note on the row stays only if its counter is the same.
abbrev pub noted : (first : Seen) (seen : List Seen) → List Seen
noted first [] = first ∷ []
noted first (s ∷ seen) =
    if is_before s.key first.key then s ∷ noted first seen else
    if same_key s.key first.key then (if s.counter == first.counter then s else first) ∷ seen else first ∷ s ∷ seen

-- The notes after the rows were seen at `now`, one after another.
abbrev pub noted_all : (rows : List Row) (now : ℕ) (seen : List Seen) → List Seen
noted_all [] now seen = seen
noted_all (r ∷ rows) now seen = noted_all rows now (noted (first_note r now) seen)
