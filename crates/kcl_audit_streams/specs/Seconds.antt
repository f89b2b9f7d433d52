-- In which seconds, and in which order, a shard's records arrived.
use Rattle.std.specs.Prelude.{ℕ, ◌≡◌, ◌/◌, ◌<◌, ◌≤◌, Bool, true, List, length, take}
use Rattle.std.specs.List.{AllByRecursion}
use Rattle.std.specs.List.Sorted.{IsNonDecreasingBy}
use Rattle.kds_defs.specs.declared.limits.TheConstants.{SECOND}
use Rattle.kcl_audit_streams.specs.declared.records.Sized.{Sized}

-- All records arrived up to `second`, and the first `start` of them in earlier seconds.
pub record AreLatest (second start : ℕ) (rs : List Sized) : Type 0 where
  pub few : start ≤ length rs
  pub none_after : AllByRecursion (λ (r : Sized). r.arrival / SECOND ≤ second) rs
  pub before : AllByRecursion (λ (r : Sized). r.arrival / SECOND < second) (take start rs)

-- The judge's notes on arrivals are right; if `rising`, no record arrived before its predecessor.
pub record AreTimed (second start : ℕ) (rising : Bool) (rs : List Sized) : Type 0 where
  pub latest : AreLatest second start rs
  pub order : rising ≡ true → IsNonDecreasingBy (λ (r : Sized). r.arrival) rs
