-- A batch is the longest prefix of the records that is within its limits.
use Rattle.std.proofs.Common.{◌≡◌, ◌≢◌, ℕ, zero, suc, ◌-◌, ◌≤◌, Bool, true, false, List, [], ◌∷◌, ◌++◌, length, map}
use Rattle.std.proofs.Common.{refl, sym, ap, subst, ◌∙◌, arith}
use Rattle.std.specs.Prelude.{nat_le, if◌then◌else◌, IfOk, Result, Ok, Err}
use Rattle.kds_base.proofs.Facts.{le_so, is_le, above_so}
use Rattle.kds_defs.specs.Records.{Logged, beginning, stored}
use Rattle.kds_defs.specs.declared.limits.TheConstants.{BATCH_BYTES}
use Rattle.kds_defs.specs.declared.reply.Stored.{Stored}
use Rattle.kds_log.specs.Log.{FirstFits, IsWithin, IsPrefix}

-- The record followed by `rs` if `b` is true, and no records otherwise.
abbrev chosen : Bool → Logged → List Logged → List Logged
chosen b r rs = if b then r ∷ rs else []

prefix_more : (b : Bool) (r : Logged) (front rs : List Logged) → IsPrefix front rs
    → IsPrefix (chosen b r front) (r ∷ rs)
prefix_more true r front rs h = (h.0, ap (λ xs. r ∷ xs) h.1)
prefix_more false r front rs h = (r ∷ rs, refl)

pub prefix : (limit room : ℕ) (rs : List Logged) → IsPrefix (beginning limit room rs) rs
prefix zero room rs = (rs, refl)
prefix (suc limit) room [] = ([], refl)
prefix (suc limit) room (r ∷ rs) =
    prefix_more (nat_le r.bytes room) r (beginning limit (room - r.bytes) rs) rs (prefix limit (room - r.bytes) rs)

within_more : (b : Bool) (limit room : ℕ) (r : Logged) (front : List Logged) → nat_le r.bytes room ≡ b
    → IsWithin limit (room - r.bytes) front → IsWithin (suc limit) room (chosen b r front)
within_more true limit room r front e h = let f = le_so r.bytes room e in (omega (arith, h.0), omega (arith, h.1, f))
within_more false limit room r front e h = (omega arith, omega arith)

pub within : (limit room : ℕ) (rs : List Logged) → IsWithin limit room (beginning limit room rs)
within zero room rs = (omega arith, omega arith)
within (suc limit) room [] = (omega arith, omega arith)
within (suc limit) room (r ∷ rs) =
    within_more (nat_le r.bytes room) limit room r (beginning limit (room - r.bytes) rs) refl
    (within limit (room - r.bytes) rs)

same_head : (r x : Logged) (rs xs : List Logged) → r ∷ rs ≡ x ∷ xs → r ≡ x
same_head r x rs xs h = cc

same_tail : (r x : Logged) (rs xs : List Logged) → r ∷ rs ≡ x ∷ xs → rs ≡ xs
same_tail r x rs xs h = cc

longest_more : (b : Bool) (limit room : ℕ) (r : Logged) (front ours : List Logged) → nat_le r.bytes room ≡ b
    → IsWithin (suc limit) room (r ∷ front)
    → (IsWithin limit (room - r.bytes) front → length front ≤ length ours)
    → length (r ∷ front) ≤ length (chosen b r ours)
longest_more true limit room r front ours e h rest =
    let f = le_so r.bytes room e in
    let inner : IsWithin limit (room - r.bytes) front = (omega (arith, h.0), omega (arith, h.1, f)) in
    omega (arith, rest inner)
longest_more false limit room r front ours e h rest = let f = above_so r.bytes room e in absurd (omega (arith, h.1, f))

pub no_longer : (limit room : ℕ) (rs front : List Logged) → IsPrefix front rs → IsWithin limit room front
    → length front ≤ length (beginning limit room rs)
no_longer limit room rs [] p h = omega arith
no_longer zero room rs (x ∷ front) p h = absurd (omega (arith, h.0))
no_longer (suc limit) room [] (x ∷ front) p h = absurd (cc p.1)
no_longer (suc limit) room (r ∷ rs) (x ∷ front) p h =
    let e : r ≡ x = same_head r x rs (front ++ p.0) p.1 in
    let t : rs ≡ front ++ p.0 = same_tail r x rs (front ++ p.0) p.1 in
    let w : IsWithin (suc limit) room (r ∷ front) =
    subst (λ (z : Logged). IsWithin (suc limit) room (z ∷ front)) (sym e) h in
    longest_more (nat_le r.bytes room) limit room r front (beginning limit (room - r.bytes) rs) refl w
    (λ inner. no_longer limit (room - r.bytes) rs front (p.0, t) inner)

-- ---- A batch that isn't empty

pub some_taken : (limit room : ℕ) (rs : List Logged) → 1 ≤ limit → FirstFits room rs → beginning limit room rs ≢ []
some_taken limit room [] some le_so = absurd le_so
some_taken zero room (r ∷ rs) some le_so = absurd (omega arith)
some_taken (suc limit) room (r ∷ rs) some le_so = taken (nat_le r.bytes room) (is_le r.bytes room le_so)
  where
    taken : (b : Bool) → b ≡ true → chosen b r (beginning limit (room - r.bytes) rs) ≢ []
    taken true is = λ none. cc
    taken false is = absurd cc

none_stored : (rs : List Logged) → map stored rs ≡ [] → rs ≡ []
none_stored [] none = refl
none_stored (r ∷ rs) none = absurd cc

pub some_stored : (limit room : ℕ) (rs : List Logged) → 1 ≤ limit → FirstFits room rs
    → map stored (beginning limit room rs) ≢ []
some_stored limit room rs some le_so none =
    some_taken limit room rs some le_so (none_stored (beginning limit room rs) none)

pub some_answered : {E : Type 0} (r : Result (List Stored) E) (limit : ℕ) (rs : List Logged)
    → IfOk r (λ b. b ≡ map stored (beginning limit BATCH_BYTES rs)) → 1 ≤ limit → FirstFits BATCH_BYTES rs
    → IfOk r (λ b. b ≢ [])
some_answered (Err e) limit rs is some le_so = tt
some_answered (Ok b) limit rs is some le_so = λ none. some_stored limit BATCH_BYTES rs some le_so (sym is ∙ none)
