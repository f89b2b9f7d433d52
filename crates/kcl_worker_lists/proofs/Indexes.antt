-- Rows whose keys rise are found at the key's index.
use Rattle.std.proofs.Common.{◌≡◌, ℕ, suc, Bool, true, false, List, [], ◌∷◌, Some, None, refl, sym, ap, ◌∙◌}
use Rattle.std.specs.Prelude.{slice_get, if◌then◌else◌}
use Rattle.kds_base.specs.declared.lease_key.ShardRef.{ShardRef}
use Rattle.kds_base.proofs.Facts.{apart}
use Rattle.kds_defs.specs.declared.reply.Row.{Row}
use Rattle.kds_defs.specs.Keys.{is_before, same_key}
use Rattle.kds_defs.proofs.Keys.{before_both, not_same, not_same_after, after_else}
use Rattle.kcl_defs.specs.Places.{insertion_index}
use Rattle.kcl_defs.specs.Plans.{AreRising, IsBeforeFirst, keys_of, row_of}
use Rattle.kcl_worker_lists.specs.Indexes.{if_key}

abbrev row_index : ShardRef → List Row → ℕ
row_index key rows = insertion_index (λ (r : Row). r.key) key rows

before_first : (a b : ShardRef) (rs : List Row) → is_before a b ≡ true → IsBeforeFirst b (keys_of rs)
    → IsBeforeFirst a (keys_of rs)
before_first a b [] h first = tt
before_first a b (r ∷ rs) h first = before_both a b r.key h first

absent : (key : ShardRef) (rs : List Row) → IsBeforeFirst key (keys_of rs) → AreRising (keys_of rs)
    → row_of rs key ≡ None
absent key [] first rising = refl
absent key (r ∷ rs) first rising =
    ap (λ b. if b then Some r else row_of rs key) (not_same_after r.key key first)
    ∙ absent key rs (before_first key r.key rs first rising.0) rising.1

row_here : (key : ShardRef) (r : Row) (rs : List Row) (b d : Bool) → is_before r.key key ≡ b → same_key r.key key ≡ d
    → AreRising (keys_of (r ∷ rs))
    → row_of rs key ≡ if_key key (slice_get rs (row_index key rs))
    → (if d then Some r else row_of rs key)
    ≡ if_key key (slice_get (r ∷ rs) (if b then suc (row_index key rs) else 0))
row_here key r rs true true is_earlier same rising rest =
    absurd (apart (same_key r.key key) same (not_same r.key key is_earlier))
row_here key r rs true false is_earlier same rising rest = rest
row_here key r rs false true is_earlier same rising rest = ap (λ d. if d then Some r else None) (sym same)
row_here key r rs false false is_earlier same rising rest =
    absent key rs (before_first key r.key rs (after_else r.key key is_earlier same) rising.0) rising.1
    ∙ ap (λ d. if d then Some r else None) (sym same)

pub row_there : (key : ShardRef) (rs : List Row) → AreRising (keys_of rs)
    → row_of rs key ≡ if_key key (slice_get rs (insertion_index (λ (r : Row). r.key) key rs))
row_there key [] rising = refl
row_there key (r ∷ rs) rising =
    row_here key r rs (is_before r.key key) (same_key r.key key) refl refl rising (row_there key rs rising.1)
