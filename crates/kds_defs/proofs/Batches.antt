-- The longest prefix that fits into a batch, found record by record from the front.
use Rattle.std.proofs.Common.{◌≡◌, ℕ, zero, suc, ◌-◌, true, List, [], ◌∷◌, refl, arith}
use Rattle.std.specs.Prelude.{nat_le}
use Rattle.kds_defs.specs.Records.{Logged, beginning}

pub beginning_none : (limit room : ℕ) → beginning limit room [] ≡ []
beginning_none zero room = refl
beginning_none (suc limit) room = refl

-- A batch takes its first record, and goes on with what that leaves of the limits.
pub beginning_one : (left room : ℕ) (r : Logged) (rest : List Logged) → (left ≡ 0 → ⊥) → nat_le r.bytes room ≡ true
    → beginning left room (r ∷ rest) ≡ r ∷ beginning (left - 1) (room - r.bytes) rest
beginning_one zero room r rest some fits = absurd (some refl)
beginning_one (suc left) room r rest some fits =
    let e : suc left - 1 ≡ left = omega arith in
    rw (fits, e) refl
