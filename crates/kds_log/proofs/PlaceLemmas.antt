-- In records in order, those left for a reader (not trimmed, from a position on) come after all others.
use Rattle.std.proofs.Common.{◌≡◌, ℕ, zero, suc, ◌<◌, ◌≤◌, Bool, true, false, List, [], ◌∷◌, length, get_or, drop, map}
use Rattle.std.proofs.Common.{refl, sym, ap, ◌∙◌, arith}
use Rattle.std.specs.Prelude.{cond, not, nat_le, max}
use Rattle.std.specs.List.{AllByRecursion}
use Rattle.std.specs.List.Sorted.{IsPartitionedBy, IsPartitionPoint}
use Rattle.std.proofs.lemmas.Bool.Decides.{nat_tests}
use Rattle.std.proofs.lemmas.Bool.{not-false, false_from_ne_true}
use Rattle.kds_base.proofs.Facts.{not_true, apart}
use Rattle.kds_defs.specs.Records.{Logged, is_left, left_among, logged}
use Rattle.kds_defs.specs.declared.reply.Stored.{Stored}
use Rattle.kds_log.specs.Log.{IsBefore, AreInOrder, since}

-- Whether the record isn't left for a reader: it is trimmed, or below `position`.
abbrev pub is_past : ℕ → ℕ → Stored → Bool
is_past floor position x = not (is_left floor position (logged x))

-- ---- Tests

past_before : (floor position : ℕ) (a b : Stored) → a.seq ≤ b.seq → a.arrival ≤ b.arrival
    → is_past floor position b ≡ true → is_past floor position a ≡ true
past_before floor position a b numbers arrivals h = grind (arith, nat_tests)

-- ---- Order

all_at : (P : Logged → Type 0) (xs : List Stored) (j : ℕ) (d : Stored) → AllByRecursion P (map logged xs)
    → j < length xs → P (logged (get_or xs j d))
all_at P [] j d h lt = absurd (omega arith)
all_at P (x ∷ xs) zero d h lt = h.0
all_at P (x ∷ xs) (suc j) d h lt = all_at P xs j d h.1 (omega arith)

-- The record `b` is below `a` neither in sequence number nor in time of arrival.
abbrev Follows : Stored → Stored → Type 0
Follows a b = (a.seq ≤ b.seq) × (a.arrival ≤ b.arrival)

in_order-at : (xs : List Stored) (i j : ℕ) (d : Stored) → AreInOrder (map logged xs) → i ≤ j → j < length xs
    → Follows (get_or xs i d) (get_or xs j d)
in_order-at [] i j d order le lt = absurd (omega arith)
in_order-at (x ∷ xs) zero zero d order le lt = (omega arith, omega arith)
in_order-at (x ∷ xs) zero (suc j) d order le lt =
    let is_before : IsBefore (logged x) (logged (get_or xs j d)) =
    all_at (IsBefore (logged x)) xs j d order.0 (omega arith) in
    let first : x.seq < (get_or xs j d).seq = is_before.0 in
    (omega arith, is_before.1)
in_order-at (x ∷ xs) (suc i) zero d order le lt = absurd (omega arith)
in_order-at (x ∷ xs) (suc i) (suc j) d order le lt = in_order-at xs i j d order.1 (omega arith) (omega arith)

pub partitioned : (floor position : ℕ) (xs : List Stored) → AreInOrder (map logged xs)
    → IsPartitionedBy (is_past floor position) xs
partitioned floor position xs order i j d le lt h =
    let follows = in_order-at xs i j d order le lt in
    past_before floor position (get_or xs i d) (get_or xs j d) follows.0 follows.1 h

-- ---- What is left

all_left : (floor position : ℕ) (xs : List Stored)
    → ((k : ℕ) (d : Stored) → k < length xs → is_past floor position (get_or xs k d) ≡ false)
    → left_among floor position (map logged xs) ≡ map logged xs
all_left floor position [] h = refl
all_left floor position (x ∷ xs) h =
    let rest = left_among floor position (map logged xs) in
    ap (λ (b : Bool). cond b (logged x ∷ rest) rest) (not-false _ (h 0 x (omega arith)))
    ∙ ap (λ rs. logged x ∷ rs) (all_left floor position xs (λ k d lt. h (suc k) d (omega arith)))

pub left_from : (floor position : ℕ) (xs : List Stored) (i : ℕ)
    → IsPartitionPoint (λ y. is_past floor position y ≡ true) (λ y. is_past floor position y ≡ false) xs i
    → left_among floor position (map logged xs) ≡ map logged (drop i xs)
left_from floor position xs zero h = all_left floor position xs (λ k d lt. h.1 k d (omega arith) lt)
left_from floor position [] (suc i) h = refl
left_from floor position (x ∷ xs) (suc i) h =
    let rest = left_among floor position (map logged xs) in
    ap (λ (b : Bool). cond b (logged x ∷ rest) rest) (not_true _ (h.0 0 x (omega arith) (omega arith)))
    ∙ left_from floor position xs i (
      (λ k d low lt. h.0 (suc k) d (omega arith) (omega arith)),
      (λ k d low lt. h.1 (suc k) d (omega arith) (omega arith)),
    )

left_at_first : (floor position : ℕ) (x : Stored) (xs : List Stored) → AreInOrder (map logged (x ∷ xs))
    → is_past floor position x ≡ false → left_among floor position (map logged (x ∷ xs)) ≡ map logged (x ∷ xs)
left_at_first floor position x xs order h =
    let past = partitioned floor position (x ∷ xs) order in
    all_left floor position (x ∷ xs)
    (λ k d lt. false_from_ne_true _ (λ late. absurd (apart _ (past 0 k d (omega arith) lt late) h)))

pub left_at_front : (floor position : ℕ) (x : Stored) (xs : List Stored) → AreInOrder (map logged xs)
    → x ≡ get_or xs 0 x → is_left floor position (logged x) ≡ true
    → left_among floor position (map logged xs) ≡ map logged xs
left_at_front floor position x [] order is h = refl
left_at_front floor position x (y ∷ ys) order is h =
    left_at_first floor position y ys order
    (ap not (ap (λ (z : Stored). is_left floor position (logged z)) (sym is) ∙ h))

-- ---- The greater one of a floor and a time

since_choice : (b d : Bool) (r : Logged) (rs ys : List Logged) (moment : ℕ) → nat_le moment r.arrival ≡ d
    → since moment rs ≡ ys → since moment (cond b (r ∷ rs) rs) ≡ cond (cond b d false) (r ∷ ys) ys
since_choice true d r rs ys moment is h = ap (λ (c : Bool). cond c (r ∷ since moment rs) (since moment rs)) is
    ∙ ap (λ zs. cond d (r ∷ zs) zs) h
since_choice false d r rs ys moment is h = h

is_late : (floor moment : ℕ) (r : Logged) → cond (is_left floor 0 r) (nat_le moment r.arrival) false
    ≡ is_left (max floor moment) 0 r
is_late floor moment r = grind (arith, nat_tests)

-- A trim floor and a starting time act as one floor, the greater of both.
pub since_left : (floor moment : ℕ) (rs : List Logged)
    → since moment (left_among floor 0 rs) ≡ left_among (max floor moment) 0 rs
since_left floor moment [] = refl
since_left floor moment (r ∷ rs) =
    let ys = left_among (max floor moment) 0 rs in
    since_choice (is_left floor 0 r) (nat_le moment r.arrival) r (left_among floor 0 rs) ys moment refl
    (since_left floor moment rs)
    ∙ ap (λ (c : Bool). cond c (r ∷ ys) ys) (is_late floor moment r)
