-- A read returns the same sequence numbers if the records' keys and payloads are emptied.
use Rattle.std.proofs.Common.{◌≡◌, ℕ, zero, suc, ◌-◌, Bool, true, false, List, [], ◌∷◌, map, refl, ap}
use Rattle.std.specs.Prelude.{cond, nat_le, if◌then◌else◌}
use Rattle.kds_defs.specs.Listings.{are_none}
use Rattle.kds_defs.specs.Records.{Logged, beginning, first_at, is_left, left_among, numbers_of}
use Rattle.kcl_laws.specs.Recorded.{bare}

pub left_bare : (floor position : ℕ) (rs : List Logged)
    → map bare (left_among floor position rs) ≡ left_among floor position (map bare rs)
left_bare floor position [] = refl
left_bare floor position (r ∷ rs) = cases (is_left floor position r) (left_bare floor position rs)
  where
    left : List Logged
    left = left_among floor position rs

    cases : (b : Bool) → map bare left ≡ left_among floor position (map bare rs)
        → map bare (cond b (r ∷ left) left)
        ≡ cond b (bare r ∷ left_among floor position (map bare rs)) (left_among floor position (map bare rs))
    cases true e = ap (λ xs. bare r ∷ xs) e
    cases false e = e

pub beginning_bare : (limit room : ℕ) (rs : List Logged)
    → map bare (beginning limit room rs) ≡ beginning limit room (map bare rs)
beginning_bare zero room rs = refl
beginning_bare (suc limit) room [] = refl
beginning_bare (suc limit) room (r ∷ rs) = cases (nat_le r.bytes room) (beginning_bare limit (room - r.bytes) rs)
  where
    more : List Logged → List Logged
    more xs = beginning limit (room - r.bytes) xs

    cases : (b : Bool) → map bare (more rs) ≡ more (map bare rs)
        → map bare (if b then r ∷ more rs else []) ≡ (if b then bare r ∷ more (map bare rs) else [])
    cases true e = ap (λ xs. bare r ∷ xs) e
    cases false e = refl

pub numbers_bare : (rs : List Logged) → numbers_of (map bare rs) ≡ numbers_of rs
numbers_bare [] = refl
numbers_bare (r ∷ rs) = ap (λ ns. r.seq ∷ ns) (numbers_bare rs)

pub none_bare : (rs : List Logged) → are_none (map bare rs) ≡ are_none rs
none_bare [] = refl
none_bare (r ∷ rs) = refl

pub first_bare : (rs : List Logged) (moment otherwise : ℕ)
    → first_at (map bare rs) moment otherwise ≡ first_at rs moment otherwise
first_bare [] moment otherwise = refl
first_bare (r ∷ rs) moment otherwise = λ i. if nat_le moment r.arrival then r.seq else first_bare rs moment otherwise i
