-- The rows of the lease table in the order of their keys (Kinesis Client Library, lease table).
use Rattle.std.specs.Prelude.{ℕ, suc, ◌≡◌, ◌≤◌, true, if◌then◌else◌, List, [], ◌∷◌, Option, Some, None}
use Rattle.std.specs.List.{AllByRecursion}
use Rattle.kds_base.specs.declared.lease_key.ShardRef.{ShardRef}
use Rattle.kds_defs.specs.declared.reply.Row.{Row}
use Rattle.kds_defs.specs.Keys.{is_before, same_key}

-- The first row of the key, if any.
abbrev pub row_of : (rs : List Row) (key : ShardRef) → Option Row
row_of [] key = None
row_of (r ∷ rs) key = if same_key r.key key then Some r else row_of rs key

-- The rows with `new` before the first later key, or at the end.
abbrev pub with_row : (new : Row) (rs : List Row) → List Row
with_row new [] = new ∷ []
with_row new (r ∷ rs) = if is_before new.key r.key then new ∷ r ∷ rs else r ∷ with_row new rs

-- The rows with `f` applied to the first row of the key, if any.
abbrev pub changed : (f : Row → Row) (key : ShardRef) (rs : List Row) → List Row
changed f key [] = []
changed f key (r ∷ rs) = if same_key r.key key then f r ∷ rs else r ∷ changed f key rs

-- The rows without the first row of the key.
abbrev pub without_row : (key : ShardRef) (rs : List Row) → List Row
without_row key [] = []
without_row key (r ∷ rs) = if same_key r.key key then rs else r ∷ without_row key rs

-- `key` comes before the keys of all rows.
abbrev pub IsBeforeAll : (key : ShardRef) (rs : List Row) → Type 0
IsBeforeAll key rs = AllByRecursion (λ (r : Row). is_before key r.key ≡ true) rs

-- The keys of the rows rise strictly.
abbrev pub AreInOrder : (rs : List Row) → Type 0
AreInOrder [] = Unit {0}
AreInOrder (r ∷ rs) = IsBeforeAll r.key rs × AreInOrder rs

-- In each row, the switches are at most the counter, since each switch was a take that raised it.
abbrev pub AreCounted : (rs : List Row) → Type 0
AreCounted rs = AllByRecursion (λ (r : Row). r.switches ≤ r.counter) rs

-- The rows' keys rise, and their switches are at most their counters.
abbrev pub IsTable : (rs : List Row) → Type 0
IsTable rs = AreInOrder rs × AreCounted rs

-- The number of leading rows before `key`; with rising keys, the index where its row is or goes.
abbrev pub insertion_index : (key : ShardRef) (rs : List Row) → ℕ
insertion_index key [] = 0
insertion_index key (r ∷ rs) = if is_before r.key key then suc (insertion_index key rs) else 0

-- The row, if it has the key `key`.
abbrev pub if_key : (key : ShardRef) (r : Option Row) → Option Row
if_key key None = None
if_key key (Some r) = if same_key r.key key then Some r else None
