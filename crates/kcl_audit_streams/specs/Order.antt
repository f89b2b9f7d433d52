-- The judge keeps a stream's records in the order of their sequence numbers.
use Rattle.std.specs.Prelude.{ℕ, ◌<◌, List}
use Rattle.std.specs.List.{AllByRecursion}
use Rattle.std.specs.List.Sorted.{IsNonDecreasingBy}
use Rattle.kcl_audit_streams.specs.declared.records.Sized.{Sized}

-- The sequence numbers never fall and are below `next`.
abbrev pub AreNumbered : (next : ℕ) (rs : List Sized) → Type 0
AreNumbered next rs = IsNonDecreasingBy (λ (r : Sized). r.seq) rs × AllByRecursion (λ (r : Sized). r.seq < next) rs
