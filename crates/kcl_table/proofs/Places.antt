-- In rows whose keys rise, the row of a key is found at the key's index.
use Rattle.std.proofs.Common.{◌≡◌, ℕ, zero, suc, ◌<◌, ◌≤◌, Bool, true, false, List, [], ◌∷◌, length, Some, None, refl}
use Rattle.std.proofs.Common.{sym, ap, ◌∙◌, arith}
use Rattle.std.specs.Prelude.{slice_get, slice_index_or, if◌then◌else◌}
use Rattle.std.specs.List.Sorted.{IsPartitionedBy, IsPartitionPoint}
use Rattle.kds_base.specs.declared.lease_key.ShardRef.{ShardRef}
use Rattle.kds_base.proofs.Facts.{apart}
use Rattle.kds_defs.specs.declared.reply.Row.{Row}
use Rattle.kds_defs.specs.Keys.{is_before, same_key}
use Rattle.kds_defs.proofs.Keys.{after_else, before_both, not_same, not_same_after}
use Rattle.kcl_table.specs.Rows.{AreInOrder, IsBeforeAll, if_key, insertion_index, row_of}

pub before_all : (a b : ShardRef) (rs : List Row) → is_before a b ≡ true → IsBeforeAll b rs → IsBeforeAll a rs
before_all a b [] h all = tt
before_all a b (r ∷ rs) h all = (before_both a b r.key h all.0, before_all a b rs h all.1)

-- Whether the row comes before `key`.
abbrev pub comes_before : ShardRef → Row → Bool
comes_before key r = is_before r.key key

all_at : (key : ShardRef) (rs : List Row) (j : ℕ) (d : Row) → IsBeforeAll key rs → j < length rs
    → is_before key (slice_index_or rs j d).key ≡ true
all_at key [] j d all h = absurd (omega arith)
all_at key (r ∷ rs) zero d all h = all.0
all_at key (r ∷ rs) (suc j) d all h = all_at key rs j d all.1 (omega arith)

pub partitioned : (key : ShardRef) (rs : List Row) → AreInOrder rs → IsPartitionedBy (comes_before key) rs
partitioned key [] order i j d le within is = absurd (omega arith)
partitioned key (r ∷ rs) order zero zero d le within is = is
partitioned key (r ∷ rs) order zero (suc j) d le within is =
    before_both r.key (slice_index_or rs j d).key key (all_at r.key rs j d order.0 (omega arith)) is
partitioned key (r ∷ rs) order (suc i) zero d le within is = absurd (omega arith)
partitioned key (r ∷ rs) order (suc i) (suc j) d le within is =
    partitioned key rs order.1 i j d (omega arith) (omega arith) is

pub index_is : (key : ShardRef) (rs : List Row) (i : ℕ) → i ≤ length rs
    → IsPartitionPoint (λ r. comes_before key r ≡ true) (λ r. comes_before key r ≡ false) rs i
    → i ≡ insertion_index key rs
index_is key [] i le h = omega arith
index_is key (r ∷ rs) zero le h =
    ap (λ b. if b then suc (insertion_index key rs) else 0) (sym (h.1 0 r (omega arith) (omega arith)))
index_is key (r ∷ rs) (suc i) le h =
    let rest = index_is key rs i (omega arith) (
      λ k d low high. h.0 (suc k) d (omega arith) (omega arith),
      λ k d low high. h.1 (suc k) d (omega arith) (omega arith),
    ) in
    ap suc rest ∙ ap (λ b. if b then suc (insertion_index key rs) else 0) (sym (h.0 0 r (omega arith) (omega arith)))

pub absent : (key : ShardRef) (rs : List Row) → IsBeforeAll key rs → row_of rs key ≡ None
absent key [] all = refl
absent key (r ∷ rs) all = ap (λ b. if b then Some r else row_of rs key) (not_same_after r.key key all.0)
    ∙ absent key rs all.1

row_here : (key : ShardRef) (r : Row) (rs : List Row) (b d : Bool) → is_before r.key key ≡ b → same_key r.key key ≡ d
    → AreInOrder (r ∷ rs)
    → row_of rs key ≡ if_key key (slice_get rs (insertion_index key rs))
    → (if d then Some r else row_of rs key)
    ≡ if_key key (slice_get (r ∷ rs) (if b then suc (insertion_index key rs) else 0))
row_here key r rs true true is_earlier same order rest =
    absurd (apart (same_key r.key key) same (not_same r.key key is_earlier))
row_here key r rs true false is_earlier same order rest = rest
row_here key r rs false true is_earlier same order rest = ap (λ d. if d then Some r else None) (sym same)
row_here key r rs false false is_earlier same order rest =
    absent key rs (before_all key r.key rs (after_else r.key key is_earlier same) order.0)
    ∙ ap (λ d. if d then Some r else None) (sym same)

pub row_there : (key : ShardRef) (rs : List Row) → AreInOrder rs
    → row_of rs key ≡ if_key key (slice_get rs (insertion_index key rs))
row_there key [] order = refl
row_there key (r ∷ rs) order =
    row_here key r rs (is_before r.key key) (same_key r.key key) refl refl order (row_there key rs order.1)
