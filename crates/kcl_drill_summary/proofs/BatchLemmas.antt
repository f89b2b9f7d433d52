-- Records with rising sequence numbers are the batch that they begin with, then the records after it.
use Rattle.std.proofs.Common.{◌≡◌, ℕ, zero, suc, ◌+◌, ◌-◌, ◌<◌, ◌≤◌, Bool, true, false, List, [], ◌∷◌, ◌++◌, map, refl}
use Rattle.std.proofs.Common.{sym, ap, ◌∙◌, arith}
use Rattle.std.specs.Prelude.{not, nat_le, nat_lt, ◌&&◌, cond, if◌then◌else◌}
use Rattle.std.specs.List.{AllByRecursion, filter}
use Rattle.std.proofs.lemmas.Bool.Decides.{nat_tests}
use Rattle.std.proofs.lemmas.Bool.{cond_both}
use Rattle.kds_base.proofs.Facts.{all_filter, le_so, is_le, is_above, above_so}
use Rattle.kds_defs.specs.Records.{Logged, beginning, left_among, logged, numbers_of, position_after, stored}
use Rattle.kcl_laws.specs.Recorded.{IsSized}
use Rattle.kcl_drill_summary.specs.Counting.{AreAbove}
use Rattle.kcl_drill.specs.Summed.{bytes_of}

-- Each record has a bounded size (`IsSized`).
abbrev pub AreSized : List Logged → Type 0
AreSized rs = AllByRecursion IsSized rs

-- The sequence numbers of the records rise strictly, from `p` or above.
abbrev pub IsUp : ℕ → List Logged → Type 0
IsUp p [] = Unit {0}
IsUp p (r ∷ rs) = (p ≤ r.seq) × IsUp (r.seq + 1) rs

-- The records whose sequence number is at least `p`.
abbrev pub from : ℕ → List Logged → List Logged
from p rs = filter (λ (r : Logged). nat_le p r.seq) rs

pub up_weaker : (p m : ℕ) (rs : List Logged) → p ≤ m → IsUp m rs → IsUp p rs
up_weaker p m [] le up = tt
up_weaker p m (r ∷ rs) le up = (omega (arith, le, up.0), up.1)

pub up_kept : (p m : ℕ) (rs : List Logged) → IsUp m rs → IsUp m (from p rs)
up_kept p m [] up = tt
up_kept p m (r ∷ rs) up =
    let rest = up_kept p (r.seq + 1) rs up.1 in
    cond_both (nat_le p r.seq) (r ∷ from p rs) (from p rs) (IsUp m) (λ stays. (up.0, rest))
    (λ goes. up_weaker m (r.seq + 1) (from p rs) (omega (arith, up.0)) rest)

up_head : (p : ℕ) (r : Logged) (rs : List Logged) (b : Bool) → nat_le p r.seq ≡ b → IsUp (r.seq + 1) rs
    → IsUp p (from p rs) → IsUp p (cond b (r ∷ from p rs) (from p rs))
up_head p r rs true is up rest = (le_so p r.seq is, up_kept p (r.seq + 1) rs up)
up_head p r rs false is up rest = rest

pub up_from : (p m : ℕ) (rs : List Logged) → IsUp m rs → IsUp p (from p rs)
up_from p m [] up = tt
up_from p m (r ∷ rs) up = up_head p r rs (nat_le p r.seq) refl up.1 (up_from p (r.seq + 1) rs up.1)

pub all_from : (p : ℕ) (rs : List Logged) → IsUp p rs → from p rs ≡ rs
all_from p [] up = refl
all_from p (r ∷ rs) up =
    ap (λ b. cond b (r ∷ from p rs) (from p rs)) (is_le p r.seq up.0)
    ∙ ap (λ xs. r ∷ xs) (all_from p rs (up_weaker p (r.seq + 1) rs (omega (arith, up.0)) up.1))

-- A batch never moves the position back.
pub position_up : (limit room p : ℕ) (rs : List Logged) → IsUp p rs
    → p ≤ position_after p (numbers_of (beginning limit room rs))
position_up zero room p rs up = omega arith
position_up (suc limit) room p [] up = omega arith
position_up (suc limit) room p (r ∷ rs) up =
    let rest = position_up limit (room - r.bytes) (r.seq + 1) rs up.1 in
    cond_both (nat_le r.bytes room) (r ∷ beginning limit (room - r.bytes) rs) []
    (λ bs. p ≤ position_after p (numbers_of bs))
    (λ fits. omega (arith, up.0, rest)) (λ full. omega arith)

part_head : (p : ℕ) (r : Logged) (rs bs : List Logged) (b : Bool) → p ≤ r.seq → IsUp (r.seq + 1) rs
    → r.seq + 1 ≤ position_after (r.seq + 1) (numbers_of bs)
    → rs ≡ bs ++ from (position_after (r.seq + 1) (numbers_of bs)) rs
    → r ∷ rs ≡ (if b then r ∷ bs else []) ++ from (position_after p (numbers_of (if b then r ∷ bs else []))) (r ∷ rs)
part_head p r rs bs true le up above rest =
    let position = position_after (r.seq + 1) (numbers_of bs) in
    ap (λ xs. r ∷ xs) rest
    ∙ ap (λ b. r ∷ (bs ++ cond b (r ∷ from position rs) (from position rs)))
    (sym (is_above position r.seq (omega arith)))
part_head p r rs bs false le up above rest = sym (all_from p (r ∷ rs) (le, up))

-- The records are the batch that they begin with, then the records from the position after it on.
pub parts : (limit room p : ℕ) (rs : List Logged) → IsUp p rs
    → rs ≡ beginning limit room rs ++ from (position_after p (numbers_of (beginning limit room rs))) rs
parts zero room p rs up = sym (all_from p rs up)
parts (suc limit) room p [] up = refl
parts (suc limit) room p (r ∷ rs) up =
    part_head p r rs (beginning limit (room - r.bytes) rs) (nat_le r.bytes room) up.0 up.1
    (position_up limit (room - r.bytes) (r.seq + 1) rs up.1) (parts limit (room - r.bytes) (r.seq + 1) rs up.1)

twice_head : (p position : ℕ) (r : Logged) (rs : List Logged) → p ≤ position → (b d : Bool) → nat_le p r.seq ≡ b
    → nat_le position r.seq ≡ d → from position (from p rs) ≡ from position rs
    → from position (cond b (r ∷ from p rs) (from p rs)) ≡ cond d (r ∷ from position rs) (from position rs)
twice_head p position r rs le true true is is_at so =
    ap (λ b. cond b (r ∷ from position (from p rs)) (from position (from p rs))) is_at ∙ ap (λ xs. r ∷ xs) so
twice_head p position r rs le true false is is_at so =
    ap (λ b. cond b (r ∷ from position (from p rs)) (from position (from p rs))) is_at ∙ so
twice_head p position r rs le false true is is_at so =
    absurd (omega (arith, le, le_so position r.seq is_at, above_so p r.seq is))
twice_head p position r rs le false false is is_at so = so

pub from_twice : (p position : ℕ) (rs : List Logged) → p ≤ position → from position (from p rs) ≡ from position rs
from_twice p position [] le = refl
from_twice p position (r ∷ rs) le =
    twice_head p position r rs le (nat_le p r.seq) (nat_le position r.seq) refl refl (from_twice p position rs le)

pub left_all : (floor p : ℕ) (rs : List Logged) → AreAbove floor rs → left_among floor p rs ≡ from p rs
left_all floor p [] are = refl
left_all floor p (r ∷ rs) are =
    ap (λ b. cond (not b && nat_le p r.seq) (r ∷ left_among floor p rs) (left_among floor p rs)) are.0
    ∙ ap (λ xs. cond (nat_le p r.seq) (r ∷ xs) xs) (left_all floor p rs are.1)

-- ---- If a read doesn't move the position on, nothing is left

pub sized_from : (p : ℕ) (rs : List Logged) → AreSized rs → AreSized (from p rs)
sized_from p rs are = all_filter IsSized (λ (r : Logged). nat_le p r.seq) rs are

-- One record always fits into a batch, so a batch that doesn't move the position means no records.
pub stuck : (limit p : ℕ) (rs : List Logged) → IsUp p rs → AreSized rs
    → nat_lt p (position_after p (numbers_of (beginning (suc limit) 10485760 rs))) ≡ false → rs ≡ []
stuck limit p [] up are is = refl
stuck limit p (r ∷ rs) up are is =
    absurd (either (nat_le r.bytes 10485760) (is_le r.bytes 10485760 (omega (arith, are.0.1))) is)
  where
    either : (b : Bool) → b ≡ true
        → nat_lt p (position_after p (numbers_of (if b then r ∷ beginning limit (10485760 - r.bytes) rs else [])))
        ≡ false
        → ⊥
    either false fits h = absurd cc
    either true fits h = no p (position_after (r.seq + 1) (numbers_of (beginning limit (10485760 - r.bytes) rs)))
        (omega (arith, up.0, position_up limit (10485760 - r.bytes) (r.seq + 1) rs up.1)) h
      where
        no : (p q : ℕ) → p < q → nat_lt p q ≡ false → ⊥
        no p q below h = grind (arith, nat_tests)

-- ---- Payload bytes

pub bytes_append : (xs ys : List Logged) → bytes_of (xs ++ ys) ≡ bytes_of xs + bytes_of ys
bytes_append [] ys = omega arith
bytes_append (x ∷ xs) ys = let n = bytes_append xs ys in omega arith

-- A record keeps its payload bytes in an answer of the service.
pub bytes_stored : (rs : List Logged) → bytes_of (map logged (map stored rs)) ≡ bytes_of rs
bytes_stored [] = refl
bytes_stored (r ∷ rs) = let n = bytes_stored rs in omega arith
