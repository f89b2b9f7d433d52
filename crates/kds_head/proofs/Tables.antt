-- The table of checks gives the refusal of the first check that a head fails.
use Rattle.std.proofs.Common.{◌≡◌, ℕ, ◌<◌, ◌≤◌, List, Bool, true, false, refl, arith}
use Rattle.std.proofs.lemmas.Bool.Decides.{nat_tests}
use Rattle.std.specs.Prelude.{nat_lt}
use Rattle.kds_head.specs.declared.found.Found.{Found}
use Rattle.kds_head.specs.declared.found.Found.TheVariants.{Refused, Whole}
use Rattle.kds_head.specs.Table.{refused◌if◌else◌}

pub stops : (s : ℕ) (b : Bool) (later : Found) → b ≡ true → Refused s ≡ (refused s if b else later)
unfolding refused◌if◌else◌
stops s b later e = rw e refl

pub passes : (s : ℕ) (b : Bool) (later x : Found) → b ≡ false → x ≡ later → x ≡ (refused s if b else later)
unfolding refused◌if◌else◌
passes s b later x e h = rw e h

pub above : (n m k : ℕ) → n ≡ m → k < n → nat_lt k m ≡ true
above n m k e h = let h' : k < m = rw e at h in grind (arith, nat_tests)

pub not_above : (n m k : ℕ) → n ≡ m → n ≤ k → nat_lt k m ≡ false
not_above n m k e h = let h' : m ≤ k = rw e at h in grind (arith, nat_tests)

pub whole_same : (len b b' : ℕ) (o o' : List ℕ) (j j' c c' : Bool) → b ≡ b' → o ≡ o' → j ≡ j' → c ≡ c'
    → Whole (record { length = len; body = b; operation = o; json = j; close = c })
    ≡ Whole (record { length = len; body = b'; operation = o'; json = j'; close = c' })
whole_same len b b' o o' j j' c c' eb eo ej ec = rw (eb, eo, ej, ec) refl
