-- The position after a batch that isn't empty is one above its last record's sequence number.
use Rattle.std.proofs.Common.{◌≡◌, ℕ, suc, ◌+◌, ◌-◌, List, [], ◌∷◌, length, map, Some, sym, ap, ◌∙◌, arith}
use Rattle.std.specs.Prelude.{slice_get}
use Rattle.kds_defs.specs.declared.reply.Stored.{Stored}
use Rattle.kds_defs.specs.Records.{position_after}

pub one_less : (n : ℕ) → suc (suc n) - 1 ≡ suc (suc n - 1)
one_less n = omega arith

pub last_number : (place : ℕ) (ns : List ℕ) (n : ℕ) → slice_get ns (length ns - 1) ≡ Some n
    → position_after place ns ≡ n + 1
last_number place [] n is = absurd cc
last_number place (x ∷ []) n is = let e : x ≡ n = cc in ap (λ m. m + 1) e
last_number place (x ∷ y ∷ ns) n is =
    last_number (x + 1) (y ∷ ns) n (ap (slice_get (x ∷ y ∷ ns)) (sym (one_less (length ns))) ∙ is)

pub last_record : (place : ℕ) (items : List Stored) (item : Stored) → slice_get items (length items - 1) ≡ Some item
    → position_after place (map (λ (r : Stored). r.seq) items) ≡ item.seq + 1
last_record place [] item is = absurd cc
last_record place (x ∷ []) item is = let e : x ≡ item = cc in ap (λ (r : Stored). r.seq + 1) e
last_record place (x ∷ y ∷ items) item is =
    last_record (x.seq + 1) (y ∷ items) item (ap (slice_get (x ∷ y ∷ items)) (sym (one_less (length items))) ∙ is)
