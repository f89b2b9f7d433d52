-- A log that gains a record or loses its trimmed ones agrees with the definitions.
use Rattle.std.proofs.Common.{◌≡◌, ℕ, zero, suc, ◌<◌, ◌≤◌, Bool, true, false, List, [], ◌∷◌, ◌++◌, length, get_or, map}
use Rattle.std.proofs.Common.{Option, Some, None, refl, sym, ap, subst, ◌∙◌, arith}
use Rattle.std.specs.Prelude.{cond, not, nat_le, nat_lt, ◌&&◌, slice_set, IfSome}
use Rattle.std.specs.List.{AllByRecursion}
use Rattle.std.proofs.lemmas.Bool.Decides.{nat_tests}
use Rattle.kds_defs.specs.Records.{Logged, is_left, left_among}
use Rattle.kds_log.specs.Log.{LogValue, LogWithReserve, log_of}
use Rattle.kds_stream_logs.specs.Logs.{IsUnder, settled_at, settled_log, with_appended}

-- ---- What holds of each element

pub all_at : {A : Type 0} (P : A → Type 0) (xs : List A) (i : ℕ) (x : A) → i < length xs → x ≡ get_or xs i x
    → AllByRecursion P xs → P x
all_at P [] i x below is h = absurd (omega arith)
all_at P (y ∷ ys) zero x below is h = subst P (sym is) h.0
all_at P (y ∷ ys) (suc i) x below is h = all_at P ys i x (omega arith) is h.1

-- ---- A record is appended to the log at an index

pub appended_at : (ls : List LogWithReserve) (i : ℕ) (d l : LogWithReserve) (r : Logged) → i < length ls
    → log_of l ≡ record { kept = (get_or ls i d).kept ++ r ∷ []; last = Some r.seq }
    → map log_of (slice_set ls i l) ≡ with_appended i r (map log_of ls)
appended_at [] i d l r below is = absurd (omega arith)
appended_at (x ∷ ls) zero d l r below is = ap (λ (y : LogValue). y ∷ map log_of ls) is
appended_at (x ∷ ls) (suc i) d l r below is =
    ap (λ (ys : List LogValue). log_of x ∷ ys) (appended_at ls i d l r (omega arith) is)

-- Replacing a log by one with the same records, perhaps with other reserved memory, changes no records.
pub same_at : (ls : List LogWithReserve) (i : ℕ) (d l : LogWithReserve) → i < length ls
    → log_of l ≡ log_of (get_or ls i d)
    → map log_of (slice_set ls i l) ≡ map log_of ls
same_at [] i d l below is = absurd (omega arith)
same_at (x ∷ ls) zero d l below is = ap (λ (y : LogValue). y ∷ map log_of ls) is
same_at (x ∷ ls) (suc i) d l below is = ap (λ (ys : List LogValue). log_of x ∷ ys) (same_at ls i d l (omega arith) is)

pub all_logs_at : (P : LogValue → Type 0) (ls : List LogWithReserve) (i : ℕ) (d : LogWithReserve) → i < length ls
    → AllByRecursion P (map log_of ls) → P (log_of (get_or ls i d))
all_logs_at P [] i d below h = absurd (omega arith)
all_logs_at P (x ∷ ls) zero d below h = h.0
all_logs_at P (x ∷ ls) (suc i) d below h = all_logs_at P ls i d (omega arith) h.1

pub under_some : (next : ℕ) (last : Option ℕ) → IsUnder next last → IfSome last (λ n. n < next)
under_some next None h = tt
under_some next (Some n) h = h

pub as_many_logs : (ls : List LogWithReserve) → length (map log_of ls) ≡ length ls
as_many_logs [] = refl
as_many_logs (l ∷ ls) = ap suc (as_many_logs ls)

-- ---- Trimmed records are removed

all_left_by : (b : Bool) (r : Logged) (rs : List Logged) → b ≡ true → cond b (r ∷ rs) rs ≡ r ∷ rs
all_left_by true r rs h = refl
all_left_by false r rs h = absurd cc

late : (floor arrival seq : ℕ) → floor ≤ arrival → (not (nat_lt arrival floor) && nat_le 0 seq) ≡ true
late floor arrival seq h = grind (arith, nat_tests)

pub all_left : (floor : ℕ) (rs : List Logged) → AllByRecursion (λ (r : Logged). floor ≤ r.arrival) rs
    → left_among floor 0 rs ≡ rs
all_left floor [] h = refl
all_left floor (r ∷ rs) h = ap (λ xs. cond (is_left floor 0 r) (r ∷ xs) xs) (all_left floor rs h.1)
    ∙ all_left_by (is_left floor 0 r) r rs (late floor r.arrival r.seq h.0)

any_late : (rs : List Logged) → AllByRecursion (λ (r : Logged). 0 ≤ r.arrival) rs
any_late [] = tt
any_late (r ∷ rs) = (omega arith, any_late rs)

pub left_at_zero : (rs : List Logged) → left_among 0 0 rs ≡ rs
left_at_zero rs = all_left 0 rs (any_late rs)

settled_same : (floor : ℕ) (l : LogValue) → left_among floor 0 l.kept ≡ l.kept → l ≡ settled_log floor l
settled_same floor l h = ap (λ rs. let z : LogValue = record { kept = rs; last = l.last } in z) (sym h)

-- Without a cut, the trim floor is 0, and settling changes nothing.
pub settled_at_zero : (n : ℕ) (ls : List LogValue) → ls ≡ settled_at 0 n ls
settled_at_zero n [] = refl
settled_at_zero zero (l ∷ ls) = ap (λ x. x ∷ ls) (settled_same 0 l (left_at_zero l.kept))
settled_at_zero (suc n) (l ∷ ls) = ap (λ xs. l ∷ xs) (settled_at_zero n ls)

pub settled_beyond : (floor n : ℕ) (ls : List LogValue) → length ls ≤ n → ls ≡ settled_at floor n ls
settled_beyond floor n [] beyond = refl
settled_beyond floor zero (l ∷ ls) beyond = absurd (omega arith)
settled_beyond floor (suc n) (l ∷ ls) beyond = ap (λ xs. l ∷ xs) (settled_beyond floor n ls (omega arith))

pub settled_set : (ls : List LogWithReserve) (i floor : ℕ) (d l : LogWithReserve) → i < length ls
    → log_of l ≡ settled_log floor (log_of (get_or ls i d))
    → map log_of (slice_set ls i l) ≡ settled_at floor i (map log_of ls)
settled_set [] i floor d l below is = absurd (omega arith)
settled_set (x ∷ ls) zero floor d l below is = ap (λ (y : LogValue). y ∷ map log_of ls) is
settled_set (x ∷ ls) (suc i) floor d l below is =
    ap (λ (ys : List LogValue). log_of x ∷ ys) (settled_set ls i floor d l (omega arith) is)
