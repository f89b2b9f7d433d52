-- The rows after a change, insertion or removal at a key's index are still a lease table's.
use Rattle.std.proofs.Common.{◌≡◌, ℕ, suc, ◌+◌, ◌<◌, ◌≤◌, Bool, true, false, List, [], ◌∷◌, length, slice_set, Some}
use Rattle.std.proofs.Common.{None, refl, sym, ap, subst, ◌∙◌, arith}
use Rattle.std.specs.Prelude.{if◌then◌else◌}
use Rattle.std.specs.List.{insert, remove}
use Rattle.std.proofs.lemmas.Option.{same_Some}
use Rattle.kds_base.specs.declared.lease_key.ShardRef.{ShardRef}
use Rattle.kds_base.proofs.Facts.{apart}
use Rattle.kds_defs.specs.declared.reply.Row.{Row}
use Rattle.kds_defs.specs.Keys.{is_before, same_key}
use Rattle.kds_defs.specs.Leases.{is_other, taken_row}
use Rattle.kds_defs.proofs.Keys.{after_else, before_else, not_before_after, not_same, same_ref}
use Rattle.kcl_table.specs.declared.writes.Change.{Change}
use Rattle.kcl_table.specs.declared.writes.Change.TheVariants.{Renewed, Freed}
use Rattle.kcl_table.specs.Rows.{AreCounted, AreInOrder, IsBeforeAll, IsTable, changed, insertion_index, row_of}
use Rattle.kcl_table.specs.Rows.{with_row}
use Rattle.kcl_table.specs.Rows.{without_row}
use Rattle.kcl_table.specs.Writes.{written_row}
use Rattle.kcl_table.proofs.Places.{absent, before_all}

-- ---- The row of a key

found_here : (key : ShardRef) (x r : Row) (rs : List Row) (d : Bool) → same_key x.key key ≡ d
    → (if d then Some x else row_of rs key) ≡ Some r → AreCounted (x ∷ rs)
    → (row_of rs key ≡ Some r → AreCounted rs → (r.key ≡ key) × (r.switches ≤ r.counter))
    → (r.key ≡ key) × (r.switches ≤ r.counter)
found_here key x r rs true same h counted rest =
    let e = same_Some x r h in
    subst (λ (y : Row). (y.key ≡ key) × (y.switches ≤ y.counter)) e (same_ref x.key key same, counted.0)
found_here key x r rs false same h counted rest = rest h counted.1

pub found : (key : ShardRef) (r : Row) (rs : List Row) → AreCounted rs → row_of rs key ≡ Some r
    → (r.key ≡ key) × (r.switches ≤ r.counter)
found key r [] counted h = absurd cc
found key r (x ∷ rs) counted h =
    found_here key x r rs (same_key x.key key) refl h counted (λ g all. found key r rs all g)

switches_if : (b : Bool) (n m : ℕ) → n ≤ m → (if b then n + 1 else n) ≤ m + 1
switches_if true n m h = omega arith
switches_if false n m h = omega arith

pub switches_taken : (tenure owner : ℕ) (r : Row) → r.switches ≤ r.counter
    → (taken_row tenure owner r).switches ≤ (taken_row tenure owner r).counter
switches_taken tenure owner r h = switches_if (is_other r.owner owner) r.switches r.counter h

pub switches_written : (change : Change) (r : Row) → r.switches ≤ r.counter
    → (written_row change r).switches ≤ (written_row change r).counter
switches_written Renewed r h = omega arith
switches_written Freed r h = omega arith

pub key_written : (change : Change) (r : Row) → (written_row change r).key ≡ r.key
key_written Renewed r = refl
key_written Freed r = refl

-- ---- A row in the place of another

changed_here : (f : Row → Row) (key : ShardRef) (x r : Row) (rs : List Row) (d : Bool) → same_key x.key key ≡ d
    → (if d then Some x else row_of rs key) ≡ Some r
    → (row_of rs key ≡ Some r → changed (λ _. f r) key rs ≡ changed f key rs)
    → (if d then f r ∷ rs else x ∷ changed (λ _. f r) key rs) ≡ (if d then f x ∷ rs else x ∷ changed f key rs)
changed_here f key x r rs true same h rest = ap (λ y. f y ∷ rs) (sym (same_Some x r h))
changed_here f key x r rs false same h rest = ap (λ ys. x ∷ ys) (rest h)

changed_by : (f : Row → Row) (key : ShardRef) (r : Row) (rs : List Row) → row_of rs key ≡ Some r
    → changed (λ _. f r) key rs ≡ changed f key rs
changed_by f key r [] h = absurd cc
changed_by f key r (x ∷ rs) h = changed_here f key x r rs (same_key x.key key) refl h (changed_by f key r rs)

-- Writing `row` over its key's row, which exists, is the change by `f`.
pub record Puts (f : Row → Row) (key : ShardRef) (row : Row) (rs : List Row) : Type 0 where
  pub there : row_of rs row.key ≡ None → ⊥
  pub rows : changed (λ _. row) row.key rs ≡ changed f key rs

pub puts : (f : Row → Row) (key : ShardRef) (r row : Row) (rs : List Row) → AreCounted rs → row_of rs key ≡ Some r
    → row ≡ f r → (f r).key ≡ r.key → Puts f key row rs
puts f key r row rs counted h is keeps =
    let own : row.key ≡ key = ap (λ (x : Row). x.key) is ∙ keeps ∙ (found key r rs counted h).0 in
    record {
      there = λ none. none_some r (sym none ∙ ap (row_of rs) own ∙ h);
      rows = ap (λ k. changed (λ _. row) k rs) own ∙ ap (λ x. changed (λ _. x) key rs) is ∙ changed_by f key r rs h;
    }
  where
    none_some : (r : Row) → None ≡ Some r → ⊥
    none_some r h = cc

set_here : (row x : Row) (rs : List Row) (b d : Bool) → is_before x.key row.key ≡ b → same_key x.key row.key ≡ d
    → AreInOrder (x ∷ rs) → ((if d then Some x else row_of rs row.key) ≡ None → ⊥)
    → ((row_of rs row.key ≡ None → ⊥) → (insertion_index row.key rs < length rs)
    × (slice_set rs (insertion_index row.key rs) row ≡ changed (λ _. row) row.key rs))
    → ((if b then suc (insertion_index row.key rs) else 0) < suc (length rs))
    × (slice_set (x ∷ rs) (if b then suc (insertion_index row.key rs) else 0) row
    ≡ (if d then row ∷ rs else x ∷ changed (λ _. row) row.key rs))
set_here row x rs true true is_earlier same order there rest =
    absurd (apart (same_key x.key row.key) same (not_same x.key row.key is_earlier))
set_here row x rs true false is_earlier same order there rest = let h = rest there in
    (omega (arith, h.0), ap (λ ys. x ∷ ys) h.1)
set_here row x rs false true is_earlier same order there rest = (omega arith, refl)
set_here row x rs false false is_earlier same order there rest =
    absurd (there (absent row.key rs (before_all row.key x.key rs (after_else x.key row.key is_earlier same) order.0)))

pub set_is : (row : Row) (rs : List Row) → AreInOrder rs → (row_of rs row.key ≡ None → ⊥)
    → (insertion_index row.key rs < length rs)
    × (slice_set rs (insertion_index row.key rs) row ≡ changed (λ _. row) row.key rs)
set_is row [] order there = absurd (there refl)
set_is row (x ∷ rs) order there =
    set_here row x rs (is_before x.key row.key) (same_key x.key row.key) refl refl order there (set_is row rs order.1)

before_changed_here : (k : ShardRef) (row x : Row) (rs : List Row) (d : Bool) → same_key x.key row.key ≡ d
    → IsBeforeAll k (x ∷ rs) → (IsBeforeAll k rs → IsBeforeAll k (changed (λ _. row) row.key rs))
    → IsBeforeAll k (if d then row ∷ rs else x ∷ changed (λ _. row) row.key rs)
before_changed_here k row x rs true same all rest =
    (subst (λ key. is_before k key ≡ true) (same_ref x.key row.key same) all.0, all.1)
before_changed_here k row x rs false same all rest = (all.0, rest all.1)

before_changed : (k : ShardRef) (row : Row) (rs : List Row) → IsBeforeAll k rs
    → IsBeforeAll k (changed (λ _. row) row.key rs)
before_changed k row [] all = tt
before_changed k row (x ∷ rs) all =
    before_changed_here k row x rs (same_key x.key row.key) refl all (before_changed k row rs)

table_here : (row x : Row) (rs : List Row) (d : Bool) → same_key x.key row.key ≡ d → row.switches ≤ row.counter
    → IsTable (x ∷ rs) → IsTable (changed (λ _. row) row.key rs)
    → IsTable (if d then row ∷ rs else x ∷ changed (λ _. row) row.key rs)
table_here row x rs true same counted table rest =
    ((subst (λ key. IsBeforeAll key rs) (same_ref x.key row.key same) table.0.0, table.0.1), (counted, table.1.1))
table_here row x rs false same counted table rest =
    ((before_changed x.key row rs table.0.0, rest.0), (table.1.0, rest.1))

pub table_changed : (row : Row) (rs : List Row) → row.switches ≤ row.counter → IsTable rs
    → IsTable (changed (λ _. row) row.key rs)
table_changed row [] counted table = table
table_changed row (x ∷ rs) counted table =
    table_here row x rs (same_key x.key row.key) refl counted table
    (table_changed row rs counted (table.0.1, table.1.1))

-- ---- A row is inserted

none_of : (key : ShardRef) (x : Row) (rs : List Row) (d : Bool) → same_key x.key key ≡ d
    → (if d then Some x else row_of rs key) ≡ None → (d ≡ false) × (row_of rs key ≡ None)
none_of key x rs true same h = absurd (no x h)
  where
    no : (x : Row) → Some x ≡ None → ⊥
    no x h = cc
none_of key x rs false same h = (refl, h)

insert_here : (new x : Row) (rs : List Row) (b : Bool) → is_before x.key new.key ≡ b → same_key x.key new.key ≡ false
    → insert rs (insertion_index new.key rs) new ≡ with_row new rs
    → insert (x ∷ rs) (if b then suc (insertion_index new.key rs) else 0) new
    ≡ (if is_before new.key x.key then new ∷ x ∷ rs else x ∷ with_row new rs)
insert_here new x rs true is_earlier same rest =
    ap (λ ys. x ∷ ys) rest
    ∙ ap (λ e. if e then new ∷ x ∷ rs else x ∷ with_row new rs) (sym (not_before_after x.key new.key is_earlier))
insert_here new x rs false is_earlier same rest =
    ap (λ e. if e then new ∷ x ∷ rs else x ∷ with_row new rs) (sym (after_else x.key new.key is_earlier same))

pub insert_is : (new : Row) (rs : List Row) → row_of rs new.key ≡ None
    → insert rs (insertion_index new.key rs) new ≡ with_row new rs
insert_is new [] h = refl
insert_is new (x ∷ rs) h =
    let n = none_of new.key x rs (same_key x.key new.key) refl h in
    insert_here new x rs (is_before x.key new.key) refl n.0 (insert_is new rs n.1)

before_with_here : (k : ShardRef) (new x : Row) (rs : List Row) (b : Bool) → is_before k new.key ≡ true
    → IsBeforeAll k (x ∷ rs) → IsBeforeAll k (with_row new rs)
    → IsBeforeAll k (if b then new ∷ x ∷ rs else x ∷ with_row new rs)
before_with_here k new x rs true h all rest = (h, all)
before_with_here k new x rs false h all rest = (all.0, rest)

before_with : (k : ShardRef) (new : Row) (rs : List Row) → is_before k new.key ≡ true → IsBeforeAll k rs
    → IsBeforeAll k (with_row new rs)
before_with k new [] h all = (h, tt)
before_with k new (x ∷ rs) h all =
    before_with_here k new x rs (is_before new.key x.key) h all (before_with k new rs h all.1)

with_here : (new x : Row) (rs : List Row) (b : Bool) → is_before new.key x.key ≡ b → same_key x.key new.key ≡ false
    → new.switches ≤ new.counter → IsTable (x ∷ rs) → IsTable (with_row new rs)
    → IsTable (if b then new ∷ x ∷ rs else x ∷ with_row new rs)
with_here new x rs true is_earlier same counted table rest =
    (((is_earlier, before_all new.key x.key rs is_earlier table.0.0), table.0), (counted, table.1))
with_here new x rs false is_earlier same counted table rest =
    ((before_with x.key new rs (before_else x.key new.key is_earlier same) table.0.0, rest.0), (table.1.0, rest.1))

pub table_with : (new : Row) (rs : List Row) → row_of rs new.key ≡ None → new.switches ≤ new.counter → IsTable rs
    → IsTable (with_row new rs)
table_with new [] h counted table = ((tt, tt), (counted, tt))
table_with new (x ∷ rs) h counted table =
    let n = none_of new.key x rs (same_key x.key new.key) refl h in
    with_here new x rs (is_before new.key x.key) refl n.0 counted table
    (table_with new rs n.1 counted (table.0.1, table.1.1))

-- ---- A row is removed

remove_here : (key : ShardRef) (x r : Row) (rs : List Row) (b d : Bool) → is_before x.key key ≡ b
    → same_key x.key key ≡ d → AreInOrder (x ∷ rs) → (if d then Some x else row_of rs key) ≡ Some r
    → (row_of rs key ≡ Some r → (insertion_index key rs < length rs)
    × (remove rs (insertion_index key rs) ≡ without_row key rs))
    → ((if b then suc (insertion_index key rs) else 0) < suc (length rs))
    × (remove (x ∷ rs) (if b then suc (insertion_index key rs) else 0) ≡ (if d then rs else x ∷ without_row key rs))
remove_here key x r rs true true is_earlier same order h rest =
    absurd (apart (same_key x.key key) same (not_same x.key key is_earlier))
remove_here key x r rs true false is_earlier same order h rest = let g = rest h in
    (omega (arith, g.0), ap (λ ys. x ∷ ys) g.1)
remove_here key x r rs false true is_earlier same order h rest = (omega arith, refl)
remove_here key x r rs false false is_earlier same order h rest =
    absurd (none_some r (sym (absent key rs (before_all key x.key rs (after_else x.key key is_earlier same) order.0))
    ∙ h))
  where
    none_some : (r : Row) → None ≡ Some r → ⊥
    none_some r h = cc

pub remove_is : (key : ShardRef) (r : Row) (rs : List Row) → AreInOrder rs → row_of rs key ≡ Some r
    → (insertion_index key rs < length rs) × (remove rs (insertion_index key rs) ≡ without_row key rs)
remove_is key r [] order h = absurd cc
remove_is key r (x ∷ rs) order h =
    remove_here key x r rs (is_before x.key key) (same_key x.key key) refl refl order h (remove_is key r rs order.1)

before_without_here : (k key : ShardRef) (x : Row) (rs : List Row) (d : Bool) → IsBeforeAll k (x ∷ rs)
    → IsBeforeAll k (without_row key rs) → IsBeforeAll k (if d then rs else x ∷ without_row key rs)
before_without_here k key x rs true all rest = all.1
before_without_here k key x rs false all rest = (all.0, rest)

before_without : (k key : ShardRef) (rs : List Row) → IsBeforeAll k rs → IsBeforeAll k (without_row key rs)
before_without k key [] all = tt
before_without k key (x ∷ rs) all =
    before_without_here k key x rs (same_key x.key key) all (before_without k key rs all.1)

without_here : (key : ShardRef) (x : Row) (rs : List Row) (d : Bool) → IsTable (x ∷ rs) → IsTable (without_row key rs)
    → IsTable (if d then rs else x ∷ without_row key rs)
without_here key x rs true table rest = (table.0.1, table.1.1)
without_here key x rs false table rest = ((before_without x.key key rs table.0.0, rest.0), (table.1.0, rest.1))

pub table_without : (key : ShardRef) (rs : List Row) → IsTable rs → IsTable (without_row key rs)
table_without key [] table = table
table_without key (x ∷ rs) table =
    without_here key x rs (same_key x.key key) table (table_without key rs (table.0.1, table.1.1))
