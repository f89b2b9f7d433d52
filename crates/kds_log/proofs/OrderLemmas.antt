-- A log stays in order when a record is appended or trimmed, so its first record has the least sequence number.
use Rattle.std.proofs.Common.{ℕ, ◌<◌, ◌≤◌, Bool, true, false, List, [], ◌∷◌, ◌++◌, Option, Some, None, refl}
use Rattle.std.proofs.Common.{arith}
use Rattle.std.specs.Prelude.{cond, IfSome}
use Rattle.std.specs.List.{AllByRecursion, Contains, filter}
use Rattle.kds_base.proofs.Facts.{all_append, all_weaker, all_both, all_filter}
use Rattle.kds_defs.specs.Records.{Logged, is_left, left_among, numbers_of}
use Rattle.kds_log.specs.Log.{LogValue, IsBefore, AreInOrder, IsUpTo, IsOrderly, first_number, since, IsLeast}

-- ---- Order

in_order-append : (rs : List Logged) (x : Logged) → AreInOrder rs → AllByRecursion (λ r. IsBefore r x) rs
    → AreInOrder (rs ++ x ∷ [])
in_order-append [] x h g = (tt, tt)
in_order-append (r ∷ rs) x h g = (all_append (IsBefore r) rs (x ∷ []) h.0 (g.0, tt), in_order-append rs x h.1 g.1)

in_order_choice : (b : Bool) (r : Logged) (rs : List Logged) → AllByRecursion (IsBefore r) rs → AreInOrder rs
    → AreInOrder (cond b (r ∷ rs) rs)
in_order_choice true r rs h g = (h, g)
in_order_choice false r rs h g = g

pub in_order-filter : (p : Logged → Bool) (rs : List Logged) → AreInOrder rs → AreInOrder (filter p rs)
in_order-filter p [] h = tt
in_order-filter p (r ∷ rs) h =
    in_order_choice (p r) r (filter p rs) (all_filter (IsBefore r) p rs h.0) (in_order-filter p rs h.1)

-- ---- The log

up_to_before : (last : Option ℕ) (r x : Logged) → IfSome last (λ n. n < x.seq) → IsUpTo last r → r.arrival ≤ x.arrival
    → IsBefore r x
up_to_before None r x above up arrival = absurd up
up_to_before (Some n) r x above up arrival = (omega arith, arrival)

up_to_more : (last : Option ℕ) (r x : Logged) → IfSome last (λ n. n < x.seq) → IsUpTo last r → IsUpTo (Some x.seq) r
up_to_more None r x above up = absurd up
up_to_more (Some n) r x above up = omega arith

pub orderly-append : (log : LogValue) (x : Logged) → IfSome log.last (λ n. n < x.seq)
    → AllByRecursion (λ r. r.arrival ≤ x.arrival) log.kept → IsOrderly log
    → IsOrderly (record { kept = log.kept ++ x ∷ []; last = Some x.seq })
orderly-append log x above arrival orderly =
    let earlier = all_both (IsUpTo log.last) (λ r. r.arrival ≤ x.arrival) (λ r. IsBefore r x)
    (λ r up early. up_to_before log.last r x above up early) log.kept orderly.numbers arrival in
    record {
      order = in_order-append log.kept x orderly.order earlier;
      numbers = all_append (IsUpTo (Some x.seq)) log.kept (x ∷ [])
          (all_weaker (IsUpTo log.last) (IsUpTo (Some x.seq)) (λ r up. up_to_more log.last r x above up)
          log.kept orderly.numbers) (omega arith, tt);
    }

pub orderly-left : (log : LogValue) (floor position : ℕ) → IsOrderly log
    → IsOrderly (record { kept = left_among floor position log.kept; last = log.last })
orderly-left log floor position orderly = record {
  order = in_order-filter (is_left floor position) log.kept orderly.order;
  numbers = all_filter (IsUpTo log.last) (is_left floor position) log.kept orderly.numbers;
}

-- ---- The least number

at_front : (n : ℕ) (ns : List ℕ) → Contains (n ∷ ns) n
at_front n ns = (0, omega arith, refl)

all_numbers : (n : ℕ) (rs : List Logged) → AllByRecursion (λ r. n < r.seq) rs
    → AllByRecursion (λ m. n ≤ m) (numbers_of rs)
all_numbers n [] h = tt
all_numbers n (r ∷ rs) h = let first : n < r.seq = h.0 in (omega arith, all_numbers n rs h.1)

pub first_is_least : (rs : List Logged) → AreInOrder rs → IsLeast (numbers_of rs) (first_number rs)
first_is_least [] h = refl
first_is_least (r ∷ rs) h = (
  at_front r.seq (numbers_of rs),
  (
    omega arith,
    all_numbers r.seq rs
        (all_weaker (IsBefore r) (λ x. r.seq < x.seq) (λ x is_before. is_before.0) rs h.0),
  ),
)

pub first_since : (moment floor position : ℕ) (log : LogValue) → IsOrderly log
    → IsLeast (numbers_of (since moment (left_among floor position log.kept)))
    (first_number (since moment (left_among floor position log.kept)))
first_since moment floor position log orderly =
    first_is_least (since moment (left_among floor position log.kept))
    (in_order-filter _ (left_among floor position log.kept)
    (in_order-filter (is_left floor position) log.kept orderly.order))
