-- Known workers and loads, kept by worker number in the search for the busiest worker.
use Rattle.std.specs.Prelude.{ℕ, ◌≡◌, ◌==◌, List}
use Rattle.std.specs.List.{list_any}
use Rattle.std.specs.Option.{unwrap_or}
use Rattle.std.specs.Ordering.{nat_cmp}
use Rattle.std.specs.BTreeMap.{BTreeMap, get}
use Rattle.std.specs.BTreeSet.{BTreeSet, contains}

-- `known` has exactly the workers of the list.
abbrev pub AreKnown : (known : BTreeSet ℕ) (workers : List ℕ) → Type 0
AreKnown known workers = (w : ℕ) → contains nat_cmp known w ≡ list_any (λ v. v == w) workers

-- The number of rows of the worker, 0 without an entry.
abbrev pub load_in : (loads : BTreeMap ℕ ℕ) (worker : ℕ) → ℕ
load_in loads worker = unwrap_or (get nat_cmp loads worker) 0
