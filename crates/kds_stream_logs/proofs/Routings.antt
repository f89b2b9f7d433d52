-- Items are routed one after another, memory is reserved for their records, and the logs take them.
use Rattle.std.proofs.Common.{◌≡◌, ◌≢◌, ℕ, zero, suc, ◌+◌, ◌^◌, ◌<◌, ◌≤◌, Bool, true, false, List, [], ◌∷◌, ◌++◌}
use Rattle.std.proofs.Common.{length, get_or, take, map, Some, refl, sym, ap, subst, ◌∙◌, arith}
use Rattle.std.specs.Prelude.{◌==◌, cond, slice_set, if◌then◌else◌}
use Rattle.std.specs.List.{AllByRecursion, count_by, filter}
use Rattle.std.proofs.lemmas.List.{append_assoc, append-nil, length-append}
use Rattle.std.proofs.lemmas.List.Sums.{sum_by-cons, sum_by_more}
use Rattle.kds_base.proofs.Facts.{all_weaker, all_append, is_equal, equal_so, differ_so, all_both}
use Rattle.kds_defs.specs.declared.command.NewItem.{NewItem}
use Rattle.kds_defs.specs.declared.reply.Place.{Place}
use Rattle.kds_defs.specs.Rates.{SizedPut}
use Rattle.kds_defs.specs.Records.{Logged, logged}
use Rattle.kds_defs.specs.Shards.{ShardState, home_among, is_open}
use Rattle.kds_log.specs.Log.{LogValue, LogWithReserve, log_of}
use Rattle.kds_stream_logs.proofs.LogLemmas.{all_logs_at, appended_at, as_many_logs}
use Rattle.kds_rate.specs.Windows.{WindowValue}
use Rattle.kds_stream_logs.proofs.Rates.{stand_along}
use Rattle.kds_stream_logs.specs.declared.routes.Routed.{Routed}
use Rattle.kds_stream_logs.specs.declared.routes.Routes.{Routes}
use Rattle.kds_stream_logs.specs.Rating.{StandFor}
use Rattle.kds_stream_logs.specs.Routes.{AreRoutedInOrder, AreOfRecords, AreRouted, CanTake, CanTakeAll, GoesOn}
use Rattle.kds_stream_logs.specs.Routes.{IsRouted}
use Rattle.kds_stream_logs.specs.Routes.{IsSooner, IsWithin, after_item, after_items, after_number, is_throttled_item}
use Rattle.kds_stream_logs.specs.Routes.{outcome_of}
use Rattle.kds_stream_logs.specs.Routes.{outcomes, taken, is_place_of, is_routed_to, place_of, reserved_at, routed_item}
use Rattle.kds_stream_logs.specs.Routes.{routed_items, stored_item, with_each}
use Rattle.kds_stream_logs.specs.Logs.{HasArrived, IsBelow, with_appended}

-- ---- Reserved memory

reserved_other : (ls : List LogWithReserve) (i j : ℕ) (l : LogWithReserve) → i ≢ j
    → reserved_at (slice_set ls i l) j ≡ reserved_at ls j
reserved_other [] i j l apart = refl
reserved_other (x ∷ ls) zero zero l apart = absurd (apart refl)
reserved_other (x ∷ ls) zero (suc j) l apart = refl
reserved_other (x ∷ ls) (suc i) zero l apart = refl
reserved_other (x ∷ ls) (suc i) (suc j) l apart = reserved_other ls i j l (λ e. apart (ap suc e))

reserved_here : (ls : List LogWithReserve) (i : ℕ) (l : LogWithReserve) → i < length ls
    → reserved_at (slice_set ls i l) i ≡ l.reserved
reserved_here [] i l below = absurd (omega arith)
reserved_here (x ∷ ls) zero l below = refl
reserved_here (x ∷ ls) (suc i) l below = reserved_here ls i l (omega arith)

pub reserved_is : (ls : List LogWithReserve) (i : ℕ) (d : LogWithReserve) → i < length ls
    → reserved_at ls i ≡ (get_or ls i d).reserved
reserved_is [] i d below = absurd (omega arith)
reserved_is (x ∷ ls) zero d below = refl
reserved_is (x ∷ ls) (suc i) d below = reserved_is ls i d (omega arith)

-- Here memory for one more record is reserved at `i`, after the first `k` places.
module _ (ls : List LogWithReserve) (i : ℕ) (d l : LogWithReserve) (ps : List Place) (k : ℕ) (p : Place)
    (below : i < length ls) (is_at : i ≡ p.shard) (grows : l.reserved ≡ (get_or ls i d).reserved + 1)
    (within : k < length ps)
    (is : p ≡ get_or ps k p)
    (had : (sh : ℕ) → count_by (is_place_of sh) (take k ps) ≤ reserved_at ls sh) (sh : ℕ) where
  more_places : count_by (is_place_of sh) (take (k + 1) ps) ≡ count_by (is_place_of sh) (take k ps)
      + cond (p.shard == sh) 1 0
  more_places = sum_by_more (λ (q : Place). cond (is_place_of sh q) 1 0) ps k p within
      ∙ ap (λ (q : Place). count_by (is_place_of sh) (take k ps) + cond (is_place_of sh q) 1 0) (sym is)

  reserved_by : (b : Bool) → (p.shard == sh) ≡ b
      → count_by (is_place_of sh) (take (k + 1) ps) ≤ reserved_at (slice_set ls i l) sh
  reserved_by true e =
      let same : i ≡ sh = is_at ∙ equal_so p.shard sh e in
      let is_before : count_by (is_place_of sh) (take k ps) ≤ reserved_at ls i =
      subst (λ n. count_by (is_place_of sh) (take k ps) ≤ reserved_at ls n) (sym same) (had sh) in
      subst (λ n. count_by (is_place_of sh) (take (k + 1) ps) ≤ reserved_at (slice_set ls i l) n) same
      (omega (
        arith,
        more_places ∙ ap (λ c. count_by (is_place_of sh) (take k ps) + cond c 1 0) e,
        reserved_here ls i l below,
        reserved_is ls i d below,
        grows,
        is_before,
      ))
  reserved_by false e =
      omega (
        arith,
        more_places ∙ ap (λ c. count_by (is_place_of sh) (take k ps) + cond c 1 0) e,
        had sh,
        reserved_other ls i sh l (λ same. differ_so p.shard sh e (sym is_at ∙ same)),
      )

  pub reserved_more : count_by (is_place_of sh) (take (k + 1) ps) ≤ reserved_at (slice_set ls i l) sh
  reserved_more = reserved_by (p.shard == sh) refl

count_routed : (rs : List Routed) (sh : ℕ) → count_by (is_place_of sh) (map place_of rs) ≡ count_by (is_routed_to sh) rs
count_routed [] sh = refl
count_routed (r ∷ rs) sh =
    sum_by-cons (λ (p : Place). cond (is_place_of sh p) 1 0) (place_of r) (map place_of rs)
    ∙ ap (λ n. cond (r.shard == sh) 1 0 + n) (count_routed rs sh)
    ∙ sym (sum_by-cons (λ (q : Routed). cond (is_routed_to sh q) 1 0) r rs)

-- ---- The first of the records is appended

length-set : (ls : List LogWithReserve) (i : ℕ) (l : LogWithReserve) → length (slice_set ls i l) ≡ length ls
length-set [] i l = refl
length-set (x ∷ ls) zero l = refl
length-set (x ∷ ls) (suc i) l = ap suc (length-set ls i l)

all_set : (P : LogValue → Type 0) (ls : List LogWithReserve) (i : ℕ) (l : LogWithReserve) → P (log_of l)
    → AllByRecursion P (map log_of ls) → AllByRecursion P (map log_of (slice_set ls i l))
all_set P [] i l p h = tt
all_set P (x ∷ ls) zero l p h = (p, h.1)
all_set P (x ∷ ls) (suc i) l p h = (h.0, all_set P ls i l p h.1)

-- Some memory is reserved for the first of the records that the logs can take.
pub reserved_left : (ls : List LogWithReserve) (i : ℕ) (r : Routed) (rs : List Routed) → i ≡ r.shard
    → CanTakeAll ls (r ∷ rs)
    → 1 ≤ reserved_at ls i
reserved_left ls i r rs is_at can =
    let counted : cond (r.shard == i) 1 0 + count_by (is_routed_to i) rs ≤ reserved_at ls i =
    subst (λ n. n ≤ reserved_at ls i) (sum_by-cons (λ (q : Routed). cond (is_routed_to i q) 1 0) r rs)
    (can.reserved i) in
    let had : cond true 1 0 + count_by (is_routed_to i) rs ≤ reserved_at ls i =
    subst (λ c. cond c 1 0 + count_by (is_routed_to i) rs ≤ reserved_at ls i) (is_equal r.shard i (sym is_at))
    counted in
    omega arith

-- Here the first of the records that the logs can take is appended, in memory that was reserved.
module _ (ls : List LogWithReserve) (i : ℕ) (d l : LogWithReserve) (r : Routed) (rs : List Routed) (is_at : i ≡ r.shard)
    (below : i < length ls) (used : l.reserved + 1 ≡ (get_or ls i d).reserved)
    (is : log_of l ≡ record { kept = (get_or ls i d).kept ++ logged r.item ∷ []; last = Some r.item.seq })
    (can : CanTakeAll ls (r ∷ rs)) where
  number_more : (q : Routed) → IsSooner r q → CanTake (map log_of ls) q → IsBelow q.item.seq (log_of l)
  number_more q sooner take = let lower : r.item.seq < q.item.seq = sooner.0 in
      subst (IsBelow q.item.seq) (sym is) lower

  arrival_more : (q : Routed) → IsSooner r q → CanTake (map log_of ls) q → HasArrived q.item.arrival (log_of l)
  arrival_more q sooner take =
      let earlier : r.item.arrival ≤ q.item.arrival = sooner.1 in
      subst (HasArrived q.item.arrival) (sym is)
      (all_append (λ (x : Logged). x.arrival ≤ q.item.arrival) (get_or ls i d).kept (logged r.item ∷ [])
      (all_logs_at (HasArrived q.item.arrival) ls i d below take.arrival) (earlier, tt))

  take_more : (q : Routed) → IsSooner r q → CanTake (map log_of ls) q → CanTake (map log_of (slice_set ls i l)) q
  take_more q sooner take = record {
    within = omega (arith, take.within, as_many_logs ls, as_many_logs (slice_set ls i l), length-set ls i l);
    number = all_set (IsBelow q.item.seq) ls i l (number_more q sooner take) take.number;
    arrival = all_set (HasArrived q.item.arrival) ls i l (arrival_more q sooner take) take.arrival;
  }

  counted : (sh : ℕ) → cond (r.shard == sh) 1 0 + count_by (is_routed_to sh) rs ≤ reserved_at ls sh
  counted sh = subst (λ n. n ≤ reserved_at ls sh) (sum_by-cons (λ (q : Routed). cond (is_routed_to sh q) 1 0) r rs)
      (can.reserved sh)

  used_by : (sh : ℕ) (b : Bool) → (r.shard == sh) ≡ b
      → count_by (is_routed_to sh) rs ≤ reserved_at (slice_set ls i l) sh
  used_by sh true e =
      let same : i ≡ sh = is_at ∙ equal_so r.shard sh e in
      let had : cond true 1 0 + count_by (is_routed_to sh) rs ≤ reserved_at ls sh =
      subst (λ c. cond c 1 0 + count_by (is_routed_to sh) rs ≤ reserved_at ls sh) e (counted sh) in
      let had' : 1 + count_by (is_routed_to sh) rs ≤ reserved_at ls i =
      subst (λ n. 1 + count_by (is_routed_to sh) rs ≤ reserved_at ls n) (sym same) had in
      subst (λ n. count_by (is_routed_to sh) rs ≤ reserved_at (slice_set ls i l) n) same
      (omega (arith, had', reserved_here ls i l below, reserved_is ls i d below, used))
  used_by sh false e =
      let had : cond false 1 0 + count_by (is_routed_to sh) rs ≤ reserved_at ls sh =
      subst (λ c. cond c 1 0 + count_by (is_routed_to sh) rs ≤ reserved_at ls sh) e (counted sh) in
      omega (arith, had, reserved_other ls i sh l (λ same. differ_so r.shard sh e (sym is_at ∙ same)))

  pub taken_one : CanTakeAll (slice_set ls i l) rs
  taken_one = record {
    each = all_both (IsSooner r) (CanTake (map log_of ls)) (CanTake (map log_of (slice_set ls i l)))
        take_more rs can.in_order.0 can.each.1;
    reserved = λ sh. used_by sh (r.shard == sh) refl;
    in_order = can.in_order.1;
  }

  pub with_one : with_each rs (map log_of (slice_set ls i l)) ≡ with_each (r ∷ rs) (map log_of ls)
  with_one = ap (with_each rs) (appended_at ls i d l (logged r.item) below is
      ∙ ap (λ n. with_appended n (logged r.item) (map log_of ls)) is_at)

-- ---- The items are routed one after another

-- Here the first of `items` is routed, from the routes `r` and windows `us` to `q` and `ws`.
module _ (xs : List ShardState) (c : ℕ) (is_on : Bool) (f : ℕ → List SizedPut) (n : ℕ) (whole items rest : List NewItem)
    (item : NewItem) (r q : Routes) (us ws : List WindowValue) (are : items ≡ item ∷ rest)
    (h : GoesOn xs c is_on f n whole items r us) (one : IsRouted xs c is_on h.present item r q ws) where
  routed_by : (b : Bool) → is_throttled_item xs c is_on h.present item ≡ b
      → q.routed.items ++ routed_items xs c q.next (taken xs c is_on (after_item xs c h.present item b) rest)
      ≡ r.routed.items ++ routed_items xs c r.next
      (if b then taken xs c is_on (after_item xs c h.present item b) rest else item
      ∷ taken xs c is_on (after_item xs c h.present item b) rest)
  routed_by true is =
      let same : q.routed.items ≡ r.routed.items =
      one.routed ∙ ap (λ d. if d then r.routed.items else r.routed.items ++ routed_item xs c r.next item ∷ []) is in
      let number : q.next ≡ r.next = one.next_is ∙ ap (after_number r.next) is in
      ap (λ qs. qs ++ routed_items xs c q.next (taken xs c is_on h.present rest)) same
      ∙ ap (λ k. r.routed.items ++ routed_items xs c k (taken xs c is_on h.present rest)) number
  routed_by false is =
      let more : q.routed.items ≡ r.routed.items ++ routed_item xs c r.next item ∷ [] =
      one.routed ∙ ap (λ d. if d then r.routed.items else r.routed.items ++ routed_item xs c r.next item ∷ []) is in
      let number : q.next ≡ r.next + 1 = one.next_is ∙ ap (after_number r.next) is in
      let ts : List NewItem = taken xs c is_on (after_item xs c h.present item false) rest in
      ap (λ qs. qs ++ routed_items xs c q.next ts) more
      ∙ append_assoc r.routed.items (routed_item xs c r.next item ∷ []) (routed_items xs c q.next ts)
      ∙ ap (λ k. r.routed.items ++ routed_item xs c r.next item ∷ routed_items xs c k ts) number

  number_by : (b : Bool) → is_throttled_item xs c is_on h.present item ≡ b
      → q.next + length (taken xs c is_on (after_item xs c h.present item b) rest)
      ≡ r.next + length (if b then taken xs c is_on (after_item xs c h.present item b) rest else item
      ∷ taken xs c is_on (after_item xs c h.present item b) rest)
  number_by true is = let number : q.next ≡ r.next = one.next_is ∙ ap (after_number r.next) is in
      ap (λ k. k + length (taken xs c is_on h.present rest)) number
  number_by false is = let number : q.next ≡ r.next + 1 = one.next_is ∙ ap (after_number r.next) is in
      omega (arith, number)

  pub goes_on : GoesOn xs c is_on f n whole rest q ws
  goes_on = record {
    present = after_item xs c h.present item (is_throttled_item xs c is_on h.present item);
    stand = one.stand;
    after = λ sh. ap (λ ys. after_items xs c is_on h.present ys sh) (sym are) ∙ h.after sh;
    routed = routed_by (is_throttled_item xs c is_on h.present item) refl
        ∙ ap (λ ys. r.routed.items ++ routed_items xs c r.next (taken xs c is_on h.present ys)) (sym are) ∙ h.routed;
    outcomes_are =
        ap (λ os. os ++ outcomes xs c is_on
        (after_item xs c h.present item (is_throttled_item xs c is_on h.present item))
        q.next rest)
        one.outcomes_are
        ∙ append_assoc r.outcomes (outcome_of xs r.next item (is_throttled_item xs c is_on h.present item) ∷ [])
        (outcomes xs c is_on (after_item xs c h.present item (is_throttled_item xs c is_on h.present item)) q.next rest)
        ∙ ap (λ k. r.outcomes ++ outcome_of xs r.next item (is_throttled_item xs c is_on h.present item)
        ∷ outcomes xs c is_on (after_item xs c h.present item (is_throttled_item xs c is_on h.present item)) k rest)
        one.next_is
        ∙ ap (λ ys. r.outcomes ++ outcomes xs c is_on h.present r.next ys) (sym are)
        ∙ h.outcomes_are;
    next_is = number_by (is_throttled_item xs c is_on h.present item) refl
        ∙ ap (λ ys. r.next + length (taken xs c is_on h.present ys)) (sym are) ∙ h.next_is;
  }

pub routed_all : (xs : List ShardState) (c : ℕ) (is_on : Bool) (f : ℕ → List SizedPut) (n : ℕ)
    (whole items : List NewItem)
    (r : Routes) (ws : List WindowValue) → items ≡ [] → GoesOn xs c is_on f n whole items r ws
    → AreRouted xs c is_on f n whole r ws
routed_all xs c is_on f n whole items r ws none h =
    let h' : GoesOn xs c is_on f n whole [] r ws = subst (λ ys. GoesOn xs c is_on f n whole ys r ws) none h in
    record {
      stand = stand_along h'.present (after_items xs c is_on f whole) 0 ws (λ sh any. h'.after sh) h'.stand;
      routed = sym (append-nil r.routed.items) ∙ h'.routed;
      outcomes_are = sym (append-nil r.outcomes) ∙ h'.outcomes_are;
      next_is = omega (arith, h'.next_is);
    }

places-append : (rs : List Routed) (r : Routed) → map place_of (rs ++ r ∷ []) ≡ map place_of rs ++ place_of r ∷ []
places-append [] r = refl
places-append (q ∷ rs) r = ap (λ (ps : List Place). place_of q ∷ ps) (places-append rs r)

routed-append : (xs : List ShardState) (c n : ℕ) (items : List NewItem) (item : NewItem)
    → routed_items xs c n (items ++ item ∷ []) ≡ routed_items xs c n items ++ routed_item xs c (n + length items) item
    ∷ []
routed-append xs c n [] item = let e : n ≡ n + 0 = omega arith in ap (λ k. routed_item xs c k item ∷ []) e
routed-append xs c n (x ∷ items) item =
    let e : n + 1 + length items ≡ n + suc (length items) = omega arith in
    ap (λ (rs : List Routed). routed_item xs c n x ∷ rs) (routed-append xs c (n + 1) items item
    ∙ ap (λ k. routed_items xs c (n + 1) items ++ routed_item xs c k item ∷ []) e)

pub placed_none : (xs : List ShardState) (c n : ℕ) (r : Routes) → r.routed.items ≡ [] → r.places ≡ [] → r.next ≡ n
    → n < 2 ^ 64 → AreOfRecords xs c n r
placed_none xs c n r none no_place number below = record {
  items = [];
  are = none;
  next_is = omega (arith, number);
  fits = omega (arith, number);
  within = subst (AllByRecursion (IsWithin (length xs))) (sym none) tt;
  places_are = no_place ∙ ap (map place_of) (sym none);
}

pub placed_same : (xs : List ShardState) (c n : ℕ) (r q : Routes) → q.routed.items ≡ r.routed.items
    → q.places ≡ r.places → q.next ≡ r.next → AreOfRecords xs c n r → AreOfRecords xs c n q
placed_same xs c n r q same there number placed = record {
  items = placed.items;
  are = same ∙ placed.are;
  next_is = number ∙ placed.next_is;
  fits = omega (arith, number, placed.fits);
  within = subst (AllByRecursion (IsWithin (length xs))) (sym same) placed.within;
  places_are = there ∙ placed.places_are ∙ ap (map place_of) (sym same);
}

pub placed_more : (xs : List ShardState) (c n sh : ℕ) (r q : Routes) (item : NewItem)
    → sh ≡ home_among (filter is_open xs) item.hash → q.routed.items ≡ r.routed.items ++ stored_item sh c r.next item
    ∷ [] → q.places ≡ r.places ++ place_of (stored_item sh c r.next item) ∷ [] → q.next ≡ r.next + 1 → q.next < 2 ^ 64
    → sh < length xs → AreOfRecords xs c n r → AreOfRecords xs c n q
placed_more xs c n sh r q item is_at more there number fits inside placed =
    let x : Routed = stored_item sh c r.next item in
    let many : length (placed.items ++ item ∷ []) ≡ length placed.items + 1 = length-append placed.items (item ∷ []) in
    record {
      items = placed.items ++ item ∷ [];
      are =
          more
          ∙ ap (λ rs. rs ++ x ∷ []) placed.are
          ∙ ap (λ k. routed_items xs c n placed.items ++ stored_item k c r.next item ∷ []) is_at
          ∙ ap (λ k. routed_items xs c n placed.items ++ routed_item xs c k item ∷ []) placed.next_is
          ∙ sym (routed-append xs c n placed.items item);
      next_is = omega (arith, number, placed.next_is, many);
      fits = fits;
      within = subst (AllByRecursion (IsWithin (length xs))) (sym more)
          (all_append (IsWithin (length xs)) r.routed.items (x ∷ []) placed.within (inside, tt));
      places_are = there ∙ ap (λ ps. ps ++ place_of x ∷ []) placed.places_are ∙ sym (places-append r.routed.items x)
          ∙ ap (map place_of) (sym more);
    }

pub routed_none : (xs : List ShardState) (c : ℕ) (is_on : Bool) (f : ℕ → List SizedPut) (n : ℕ) (whole : List NewItem)
    (r : Routes) (ws : List WindowValue) → r.routed.items ≡ [] → r.outcomes ≡ [] → r.next ≡ n → StandFor f 0 ws
    → GoesOn xs c is_on f n whole whole r ws
routed_none xs c is_on f n whole r ws no_routed no_outcomes number stand = record {
  present = f;
  stand = stand;
  after = λ sh. refl;
  routed = ap (λ qs. qs ++ routed_items xs c r.next (taken xs c is_on f whole)) no_routed
      ∙ ap (λ k. routed_items xs c k (taken xs c is_on f whole)) number;
  outcomes_are = ap (λ os. os ++ outcomes xs c is_on f r.next whole) no_outcomes
      ∙ ap (λ k. outcomes xs c is_on f k whole) number;
  next_is = ap (λ k. k + length (taken xs c is_on f whole)) number;
}

-- The record has a number from `first` on, and arrives at the time `clock`.
pub record IsFrom (first clock : ℕ) (r : Routed) : Type 0 where
  pub number : first ≤ r.item.seq
  pub arrival : r.item.arrival ≡ clock

pub all_from : (xs : List ShardState) (clock first n : ℕ) (items : List NewItem) → first ≤ n
    → AllByRecursion (IsFrom first clock) (routed_items xs clock n items)
all_from xs clock first n [] le = tt
all_from xs clock first n (item ∷ items) le =
    (record { number = le; arrival = refl }, all_from xs clock first (n + 1) items (omega arith))

-- Routed items are in the order of their numbers and times.
pub turns : (xs : List ShardState) (clock n : ℕ) (items : List NewItem)
    → AreRoutedInOrder (routed_items xs clock n items)
turns xs clock n [] = tt
turns xs clock n (item ∷ items) = (
  all_weaker (IsFrom (n + 1) clock) (IsSooner (routed_item xs clock n item))
      (λ q is_from. (omega (arith, is_from.number), omega (arith, is_from.arrival)))
      (routed_items xs clock (n + 1) items)
      (all_from xs clock (n + 1) (n + 1) items (omega arith)),
  turns xs clock (n + 1) items,
)

pub all_places : (count : ℕ) (rs : List Routed) → AllByRecursion (IsWithin count) rs
    → AllByRecursion (λ (p : Place). p.shard < count) (map place_of rs)
all_places count [] h = tt
all_places count (r ∷ rs) h = (h.0, all_places count rs h.1)

pub places_within : (ls : List LogWithReserve) (rs : List Routed) (ps : List Place) → ps ≡ map place_of rs
    → AllByRecursion (CanTake (map log_of ls)) rs → AllByRecursion (λ (p : Place). p.shard < length ls) ps
places_within ls rs ps placed can =
    subst (AllByRecursion (λ (p : Place). p.shard < length ls)) (sym placed)
    (all_places (length ls) rs
    (all_weaker (CanTake (map log_of ls)) (IsWithin (length ls))
    (λ r take. omega (arith, take.within, as_many_logs ls)) rs can))

pub can_take_all : (old : List LogValue) (ls : List LogWithReserve) (rs : List Routed) (ps : List Place)
    → ps ≡ map place_of rs → map log_of ls ≡ old → AllByRecursion (CanTake old) rs → AreRoutedInOrder rs
    → ((sh : ℕ) → count_by (is_place_of sh) ps ≤ reserved_at ls sh) → CanTakeAll ls rs
can_take_all old ls rs ps placed same can turns reserved = record {
  each = subst (λ (ms : List LogValue). AllByRecursion (CanTake ms) rs) (sym same) can;
  reserved = λ sh. subst (λ n. n ≤ reserved_at ls sh) (ap (count_by (is_place_of sh)) placed ∙ count_routed rs sh)
      (reserved sh);
  in_order = turns;
}

-- ---- Shards that exist and others

pub apart : (n sh len : ℕ) → n < len → len ≤ sh → n ≡ sh → ⊥
apart n sh len within beyond e = omega arith
