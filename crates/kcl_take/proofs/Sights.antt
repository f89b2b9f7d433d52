-- The code's updates of notes, at the indexes of their keys, agree with `noted`.
use Rattle.std.proofs.Common.{◌≡◌, ℕ, zero, suc, ◌<◌, ◌≤◌, length, slice_set, Bool, true, false}
use Rattle.std.proofs.Common.{List, [], ◌∷◌, Option, Some, None, refl, sym, ap, subst, ◌∙◌, arith}
use Rattle.std.specs.Prelude.{◌==◌, cond, if◌then◌else◌, slice_get, slice_index_or}
use Rattle.std.specs.List.{insert}
use Rattle.std.specs.List.Sorted.{IsPartitionedBy, IsPartitionPoint}
use Rattle.std.proofs.lemmas.Bool.Decides.{nat_tests}
use Rattle.std.proofs.lemmas.Option.{none-some, same_Some}
use Rattle.kds_base.specs.declared.lease_key.ShardRef.{ShardRef}
use Rattle.kds_base.proofs.Facts.{apart, is_equal}
use Rattle.kcl_defs.specs.declared.plans.Seen.{Seen}
use Rattle.kds_defs.specs.declared.reply.Row.{Row}
use Rattle.kds_defs.specs.Keys.{is_before, same_key}
use Rattle.kds_defs.proofs.Keys.{same_ref, before_both, not_same, not_same_after, after_else}
use Rattle.kcl_defs.specs.Plans.{after_row, after_rows, seen_at, with_sight}
use Rattle.kcl_take.specs.Notes.{AreInOrder, IsBeforeAll, first_note, if_key, noted, noted_all, index_of}

-- ---- Keys

before_all : (a b : ShardRef) (xs : List Seen) → is_before a b ≡ true → IsBeforeAll b xs → IsBeforeAll a xs
before_all a b [] h all = tt
before_all a b (s ∷ xs) h all = (before_both a b s.key h all.0, before_all a b xs h all.1)

-- ---- The index of a note

-- Whether the note's key comes before `key`.
abbrev pub comes_before : ShardRef → Seen → Bool
comes_before key s = is_before s.key key

all_at : (key : ShardRef) (xs : List Seen) (j : ℕ) (d : Seen) → IsBeforeAll key xs → j < length xs
    → is_before key (slice_index_or xs j d).key ≡ true
all_at key [] j d all h = absurd (omega arith)
all_at key (s ∷ xs) zero d all h = all.0
all_at key (s ∷ xs) (suc j) d all h = all_at key xs j d all.1 (omega arith)

pub partitioned : (key : ShardRef) (xs : List Seen) → AreInOrder xs → IsPartitionedBy (comes_before key) xs
partitioned key [] order i j d le within is = absurd (omega arith)
partitioned key (s ∷ xs) order zero zero d le within is = is
partitioned key (s ∷ xs) order zero (suc j) d le within is =
    before_both s.key (slice_index_or xs j d).key key (all_at s.key xs j d order.0 (omega arith)) is
partitioned key (s ∷ xs) order (suc i) zero d le within is = absurd (omega arith)
partitioned key (s ∷ xs) order (suc i) (suc j) d le within is =
    partitioned key xs order.1 i j d (omega arith) (omega arith) is

pub index_is : (key : ShardRef) (xs : List Seen) (i : ℕ) → i ≤ length xs
    → IsPartitionPoint (λ s. comes_before key s ≡ true) (λ s. comes_before key s ≡ false) xs i → i ≡ index_of key xs
index_is key [] i le h = omega arith
index_is key (s ∷ xs) zero le h =
    ap (λ b. if b then suc (index_of key xs) else 0) (sym (h.1 0 s (omega arith) (omega arith)))
index_is key (s ∷ xs) (suc i) le h =
    let rest = index_is key xs i (omega arith) (
      λ k d low high. h.0 (suc k) d (omega arith) (omega arith),
      λ k d low high. h.1 (suc k) d (omega arith) (omega arith),
    ) in
    ap suc rest ∙ ap (λ b. if b then suc (index_of key xs) else 0) (sym (h.0 0 s (omega arith) (omega arith)))

absent : (key : ShardRef) (xs : List Seen) → IsBeforeAll key xs → seen_at xs key ≡ None
absent key [] all = refl
absent key (s ∷ xs) all = ap (λ b. if b then Some s else seen_at xs key) (not_same_after s.key key all.0)
    ∙ absent key xs all.1

seen_here : (key : ShardRef) (s : Seen) (xs : List Seen) (b d : Bool) → is_before s.key key ≡ b → same_key s.key key ≡ d
    → AreInOrder (s ∷ xs)
    → seen_at xs key ≡ if_key key (slice_get xs (index_of key xs))
    → (if d then Some s else seen_at xs key) ≡ if_key key (slice_get (s ∷ xs) (if b then suc (index_of key xs) else 0))
seen_here key s xs true true is_earlier same order rest =
    absurd (apart (same_key s.key key) same (not_same s.key key is_earlier))
seen_here key s xs true false is_earlier same order rest = rest
seen_here key s xs false true is_earlier same order rest = ap (λ d. if d then Some s else None) (sym same)
seen_here key s xs false false is_earlier same order rest =
    absent key xs (before_all key s.key xs (after_else s.key key is_earlier same) order.0)
    ∙ ap (λ d. if d then Some s else None) (sym same)

pub seen_there : (key : ShardRef) (xs : List Seen) → AreInOrder xs
    → seen_at xs key ≡ if_key key (slice_get xs (index_of key xs))
seen_there key [] order = refl
seen_there key (s ∷ xs) order =
    seen_here key s xs (is_before s.key key) (same_key s.key key) refl refl order (seen_there key xs order.1)

-- ---- One row: what is written at its index

some_none : (s : Seen) → Some s ≡ None → ⊥
some_none s h = cc

differ : (a b : ℕ) → (a ≡ b → ⊥) → (a == b) ≡ false
differ a b h = grind (arith, nat_tests, h)

set_here : (first s x : Seen) (xs : List Seen) (b : Bool)
    → if_key first.key (slice_get (x ∷ xs) (if b then suc (index_of first.key xs) else 0)) ≡ Some s
    → (s.counter ≡ first.counter → ⊥)
    → (if_key first.key (slice_get xs (index_of first.key xs)) ≡ Some s → (index_of first.key xs < length xs)
    × (slice_set xs (index_of first.key xs) first ≡ noted first xs))
    → ((if b then suc (index_of first.key xs) else 0) < suc (length xs))
    × (slice_set (x ∷ xs) (if b then suc (index_of first.key xs) else 0) first
    ≡ (if b then x ∷ noted first xs else if same_key x.key first.key then
    (if x.counter == first.counter then x else first) ∷ xs else first ∷ x ∷ xs))
set_here first s x xs true h other rest = let g = rest h in (omega (arith, g.0), ap (λ ys. x ∷ ys) g.1)
set_here first s x xs false h other rest = (omega arith, here (same_key x.key first.key) h)
  where
    here : (d : Bool) → (if d then Some x else None) ≡ Some s
        → first ∷ xs ≡ (if d then (if x.counter == first.counter then x else first) ∷ xs else first ∷ x ∷ xs)
    here true h = ap (λ e. (if e then x else first) ∷ xs)
        (sym (differ x.counter first.counter (λ e. other (ap (λ (y : Seen). y.counter) (sym (same_Some x s h)) ∙ e))))
    here false h = absurd (none-some s h)

-- Writing over an older note with another counter is `noted`.
pub set_is : (first s : Seen) (xs : List Seen) → if_key first.key (slice_get xs (index_of first.key xs)) ≡ Some s
    → (s.counter ≡ first.counter → ⊥)
    → (index_of first.key xs < length xs) × (slice_set xs (index_of first.key xs) first ≡ noted first xs)
set_is first s [] h other = absurd (none-some s h)
set_is first s (x ∷ xs) h other =
    set_here first s x xs (is_before x.key first.key) h other (λ g. set_is first s xs g other)

kept_here : (first s x : Seen) (xs : List Seen) (b : Bool)
    → if_key first.key (slice_get (x ∷ xs) (if b then suc (index_of first.key xs) else 0)) ≡ Some s
    → s.counter ≡ first.counter
    → (if_key first.key (slice_get xs (index_of first.key xs)) ≡ Some s → xs ≡ noted first xs)
    → x ∷ xs ≡ (if b then x
    ∷ noted first xs else if same_key x.key first.key then (if x.counter == first.counter then x else first)
    ∷ xs else first ∷ x ∷ xs)
kept_here first s x xs true h same rest = ap (λ ys. x ∷ ys) (rest h)
kept_here first s x xs false h same rest = here (same_key x.key first.key) h
  where
    here : (d : Bool) → (if d then Some x else None) ≡ Some s
        → x ∷ xs ≡ (if d then (if x.counter == first.counter then x else first) ∷ xs else first ∷ x ∷ xs)
    here true h = ap (λ e. (if e then x else first) ∷ xs)
        (sym (is_equal x.counter first.counter (ap (λ (y : Seen). y.counter) (same_Some x s h) ∙ same)))
    here false h = absurd (none-some s h)

-- An older note with the same counter is left as it is, as in `noted`.
pub kept_is : (first s : Seen) (xs : List Seen) → if_key first.key (slice_get xs (index_of first.key xs)) ≡ Some s
    → s.counter ≡ first.counter
    → xs ≡ noted first xs
kept_is first s [] h same = absurd (none-some s h)
kept_is first s (x ∷ xs) h same =
    kept_here first s x xs (is_before x.key first.key) h same (λ g. kept_is first s xs g same)

insert_here : (first x : Seen) (xs : List Seen) (b : Bool)
    → if_key first.key (slice_get (x ∷ xs) (if b then suc (index_of first.key xs) else 0)) ≡ None
    → (if_key first.key (slice_get xs (index_of first.key xs)) ≡ None
    → insert xs (index_of first.key xs) first ≡ noted first xs)
    → insert (x ∷ xs) (if b then suc (index_of first.key xs) else 0) first
    ≡ (if b then x ∷ noted first xs else if same_key x.key first.key then
    (if x.counter == first.counter then x else first) ∷ xs else first ∷ x ∷ xs)
insert_here first x xs true h rest = ap (λ ys. x ∷ ys) (rest h)
insert_here first x xs false h rest = here (same_key x.key first.key) h
  where
    here : (d : Bool) → (if d then Some x else None) ≡ None
        → first ∷ x ∷ xs ≡ (if d then (if x.counter == first.counter then x else first) ∷ xs else first ∷ x ∷ xs)
    here true h = absurd (some_none x h)
    here false h = refl

-- Insertion at the key's index is `noted` if the row has no older note.
pub insert_is : (first : Seen) (xs : List Seen) → if_key first.key (slice_get xs (index_of first.key xs)) ≡ None
    → insert xs (index_of first.key xs) first ≡ noted first xs
insert_is first [] h = refl
insert_is first (x ∷ xs) h = insert_here first x xs (is_before x.key first.key) h (insert_is first xs)

-- ---- One row: the order stays

before_noted_here : (k : ShardRef) (first x : Seen) (xs : List Seen) (b d e : Bool) → is_before k first.key ≡ true
    → IsBeforeAll k (x ∷ xs)
    → IsBeforeAll k (noted first xs)
    → IsBeforeAll k (if b then x ∷ noted first xs else if d then (if e then x else first) ∷ xs else first ∷ x ∷ xs)
before_noted_here k first x xs true d e h all rest = (all.0, rest)
before_noted_here k first x xs false true true h all rest = all
before_noted_here k first x xs false true false h all rest = (h, all.1)
before_noted_here k first x xs false false e h all rest = (h, all)

before_noted : (k : ShardRef) (first : Seen) (xs : List Seen) → is_before k first.key ≡ true → IsBeforeAll k xs
    → IsBeforeAll k (noted first xs)
before_noted k first [] h all = (h, tt)
before_noted k first (x ∷ xs) h all =
    before_noted_here k first x xs (is_before x.key first.key) (same_key x.key first.key) (x.counter == first.counter)
    h all (before_noted k first xs h all.1)

order_here : (first x : Seen) (xs : List Seen) (b d e : Bool) → is_before x.key first.key ≡ b
    → same_key x.key first.key ≡ d → AreInOrder (x ∷ xs)
    → AreInOrder (noted first xs)
    → AreInOrder (if b then x ∷ noted first xs else if d then (if e then x else first) ∷ xs else first ∷ x ∷ xs)
order_here first x xs true d e is_earlier same order rest = (before_noted x.key first xs is_earlier order.0, rest)
order_here first x xs false true true is_earlier same order rest = order
order_here first x xs false true false is_earlier same order rest =
    (subst (λ key. IsBeforeAll key xs) (same_ref x.key first.key same) order.0, order.1)
order_here first x xs false false e is_earlier same order rest =
    let after = after_else x.key first.key is_earlier same in
    ((after, before_all first.key x.key xs after order.0), order)

pub order_noted : (first : Seen) (xs : List Seen) → AreInOrder xs → AreInOrder (noted first xs)
order_noted first [] order = (tt, tt)
order_noted first (x ∷ xs) order =
    order_here first x xs (is_before x.key first.key) (same_key x.key first.key) (x.counter == first.counter)
    refl refl order (order_noted first xs order.1)

-- ---- One row: what is then kept of each key

noted_at : (r : Row) (now : ℕ) (seen : List Seen) (key : ShardRef) → AreInOrder seen
    → seen_at (noted (first_note r now) seen) key
    ≡ (if same_key r.key key then with_sight r now (seen_at seen key) else seen_at seen key)
noted_at r now [] key order = refl
noted_at r now (s ∷ seen) key order =
    head (is_before s.key r.key) (same_key s.key r.key) refl refl (noted_at r now seen key order.1)
  where
    same_left : (d : Bool) → same_key s.key r.key ≡ true → same_key s.key key ≡ same_key r.key key
    same_left d h = ap (λ k. same_key k key) (same_ref s.key r.key h)

    kept : (rk sk e : Bool) (rest : Option Seen) → sk ≡ rk
        → (if e then cond sk (Some s) rest else cond rk (Some (first_note r now)) rest)
        ≡ (if rk then cond sk (if e then Some s else Some (first_note r now)) (with_sight r now rest) else cond sk
        (Some s) rest)
    kept true true true rest h = refl
    kept true true false rest h = refl
    kept false false true rest h = refl
    kept false false false rest h = refl
    kept true false e rest h = absurd cc
    kept false true e rest h = absurd cc

    split_head : (e : Bool)
        → seen_at ((if e then s else first_note r now) ∷ seen) key
        ≡ (if e then cond (same_key s.key key) (Some s) (seen_at seen key) else cond (same_key r.key key)
        (Some (first_note r now)) (seen_at seen key))
    split_head true = refl
    split_head false = refl

    sight_of : (sk : Bool) (rest : Option Seen)
        → with_sight r now (cond sk (Some s) rest)
        ≡ cond sk (if s.counter == r.counter then Some s else Some (first_note r now)) (with_sight r now rest)
    sight_of true rest = refl
    sight_of false rest = refl

    passed : (rk sk : Bool) (rest later : Option Seen) → (sk ≡ true → rk ≡ true → ⊥)
        → later ≡ (if rk then with_sight r now rest else rest)
        → cond sk (Some s) later ≡ (if rk then with_sight r now (cond sk (Some s) rest) else cond sk (Some s) rest)
    passed true true rest later h ih = absurd (h refl refl)
    passed true false rest later h ih = ih
    passed false true rest later h ih = refl
    passed false false rest later h ih = ih

    not_both : is_before s.key r.key ≡ true → same_key s.key key ≡ true → same_key r.key key ≡ true → ⊥
    not_both is_earlier sk rk =
        apart (same_key s.key r.key)
        (subst (λ k. same_key s.key k ≡ true) (same_ref s.key key sk ∙ sym (same_ref r.key key rk)) (own s.key))
        (not_same s.key r.key is_earlier)
      where
        own : (k : ShardRef) → same_key s.key s.key ≡ true
        own k = grind (arith, nat_tests)

    new : (rk : Bool) → same_key r.key key ≡ rk → is_before r.key s.key ≡ true
        → cond rk (Some (first_note r now)) (seen_at (s ∷ seen) key)
        ≡ (if rk then with_sight r now (seen_at (s ∷ seen) key) else seen_at (s ∷ seen) key)
    new true rk after =
        let none : seen_at (s ∷ seen) key ≡ None = ap (seen_at (s ∷ seen)) (sym (same_ref r.key key rk))
        ∙ absent r.key (s ∷ seen) (after, before_all r.key s.key seen after order.0) in
        sym (ap (with_sight r now) none)
    new false rk after = refl

    head : (b d : Bool) → is_before s.key r.key ≡ b → same_key s.key r.key ≡ d
        → seen_at (noted (first_note r now) seen) key
        ≡ (if same_key r.key key then with_sight r now (seen_at seen key) else seen_at seen key)
        → seen_at (if b then s
        ∷ noted (first_note r now) seen else if d then (if s.counter == r.counter then s else first_note r now)
        ∷ seen else first_note r now ∷ s ∷ seen) key
        ≡ (if same_key r.key key then with_sight r now (seen_at (s ∷ seen) key) else seen_at (s ∷ seen) key)
    head true d is_earlier same ih =
        passed (same_key r.key key) (same_key s.key key) (seen_at seen key)
        (seen_at (noted (first_note r now) seen) key) (not_both is_earlier) ih
    head false true is_earlier same ih =
        split_head (s.counter == r.counter)
        ∙ kept (same_key r.key key) (same_key s.key key) (s.counter == r.counter) (seen_at seen key)
        (same_left true same)
        ∙ ap (λ o. if same_key r.key key then o else cond (same_key s.key key) (Some s) (seen_at seen key))
        (sym (sight_of (same_key s.key key) (seen_at seen key)))
    head false false is_earlier same ih = new (same_key r.key key) refl (after_else s.key r.key is_earlier same)

-- ---- All rows

-- Notes in a list and notes as a function agree after all rows.
pub noted_all_at : (rows : List Row) (now : ℕ) (seen : List Seen) (key : ShardRef) → AreInOrder seen
    → seen_at (noted_all rows now seen) key ≡ after_rows rows now (seen_at seen) key
noted_all_at [] now seen key order = refl
noted_all_at (r ∷ rows) now seen key order =
    let e : seen_at (noted (first_note r now) seen) ≡ after_row r now (seen_at seen) =
    λ i k. noted_at r now seen k order i in
    noted_all_at rows now (noted (first_note r now) seen) key (order_noted (first_note r now) seen order)
    ∙ ap (λ f. after_rows rows now f key) e
