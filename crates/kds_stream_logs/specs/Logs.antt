-- The logs of a stream's shards, and what holds of their sequence numbers and times.
use Rattle.std.specs.Prelude.{ℕ, zero, suc, ◌<◌, ◌≤◌, List, [], ◌∷◌, ◌++◌, Option, Some, None}
use Rattle.std.specs.List.{AllByRecursion}
use Rattle.kds_defs.specs.Records.{Logged, left_among}
use Rattle.kds_log.specs.Log.{LogValue}

-- If there is a number, it is below `next`.
abbrev pub IsUnder : (next : ℕ) (n : Option ℕ) → Type 0
IsUnder next None = Unit {0}
IsUnder next (Some n) = n < next

-- The log's last number is below `next`, and so are all others, since numbers rise.
abbrev pub IsBelow : (next : ℕ) (l : LogValue) → Type 0
IsBelow next l = IsUnder next l.last

-- Each record that the log keeps arrived at or before `moment`.
abbrev pub HasArrived : (moment : ℕ) (l : LogValue) → Type 0
HasArrived moment l = AllByRecursion (λ (r : Logged). r.arrival ≤ moment) l.kept

-- The log of a new shard.
abbrev pub empty_log : LogValue
empty_log = record { kept = []; last = None }

-- The logs with `r` appended at the index `n`; unchanged if there is no such index.
abbrev pub with_appended : (n : ℕ) (r : Logged) (ls : List LogValue) → List LogValue
with_appended n r [] = []
with_appended zero r (l ∷ ls) = record { kept = l.kept ++ r ∷ []; last = Some r.seq } ∷ ls
with_appended (suc n) r (l ∷ ls) = l ∷ with_appended n r ls

-- The log `l` without the records that arrived before the trim floor.
abbrev pub settled_log : (floor : ℕ) (l : LogValue) → LogValue
settled_log floor l = record l { kept = left_among floor 0 l.kept }

-- The logs with the one at the index `n` settled; unchanged if there is no such index.
abbrev pub settled_at : (floor n : ℕ) (ls : List LogValue) → List LogValue
settled_at floor n [] = []
settled_at floor zero (l ∷ ls) = settled_log floor l ∷ ls
settled_at floor (suc n) (l ∷ ls) = l ∷ settled_at floor n ls
