-- A batch's sequence numbers are collected record by record.
use Rattle.std.proofs.Common.{◌≡◌, ℕ, zero, suc, ◌+◌, ◌-◌, ◌<◌, ◌≤◌, Bool, true, List, [], ◌∷◌, ◌++◌, length, get_or}
use Rattle.std.proofs.Common.{drop, refl, sym, ap, ◌∙◌, arith}
use Rattle.std.specs.Prelude.{◌==◌, ◌&&◌, cond}
use Rattle.std.specs.List.{AllByRecursion}
use Rattle.std.proofs.lemmas.List.{at_drop_more, drop_all, append-nil, append_assoc}
use Rattle.kds_base.proofs.Facts.{all_filter, is_le}
use Rattle.kds_defs.specs.Records.{Logged, beginning, is_left, left_among, numbers_of}
use Rattle.kds_defs.proofs.Batches.{beginning_one, beginning_none}
use Rattle.kcl_audit_streams.specs.declared.records.Sized.{Sized}
use Rattle.kcl_audit_streams.specs.Standing.{is_in, logged, records_in}

-- Whether the record is of the shard, untrimmed, and at or above the position.
abbrev pub counts : ℕ → ℕ → ℕ → Sized → Bool
counts sh floor position x = (x.shard == sh) && is_left floor position (logged x)

-- The shard's records that are untrimmed and at or above the position.
abbrev pub left_in : ℕ → ℕ → ℕ → List Sized → List Logged
left_in sh floor position xs = left_among floor position (records_in xs sh)

pub left_by : (sh floor position : ℕ) (x : Sized) (xs : List Sized) (a b : Bool) → is_in sh x ≡ a
    → is_left floor position (logged x) ≡ b
    → left_in sh floor position (x ∷ xs)
    ≡ cond (a && b) (logged x ∷ left_in sh floor position xs) (left_in sh floor position xs)
left_by sh floor position x xs a b e f = grind (arith, e, f)

-- What is left of the shard from the index `i` on.
abbrev pub ahead : ℕ → ℕ → ℕ → List Sized → ℕ → List Logged
ahead sh floor position xs i = left_in sh floor position (drop i xs)

pub ahead_more : (sh floor position : ℕ) (xs : List Sized) (i : ℕ) (x : Sized) (b : Bool) → i < length xs
    → x ≡ get_or xs i x → counts sh floor position x ≡ b
    → ahead sh floor position xs i
    ≡ cond b (logged x ∷ ahead sh floor position xs (i + 1)) (ahead sh floor position xs (i + 1))
ahead_more sh floor position xs i x b lt is t =
    at_drop_more (λ ys. left_in sh floor position ys) xs i x lt
    ∙ ap (λ (y : Sized). left_in sh floor position (y ∷ drop (i + 1) xs)) (sym is)
    ∙ left_by sh floor position x (drop (i + 1) xs) (is_in sh x) (is_left floor position (logged x)) refl refl
    ∙ ap (λ (c : Bool). cond c (logged x ∷ ahead sh floor position xs (i + 1)) (ahead sh floor position xs (i + 1))) t

-- `numbers`, then the batch from `rest` within `left` records and `room` bytes, are `whole`.
abbrev pub Grows : List ℕ → ℕ → ℕ → List Logged → List ℕ → Type 0
Grows numbers left room rest whole = numbers ++ numbers_of (beginning left room rest) ≡ whole

module _ (sh floor position : ℕ) (xs : List Sized) (i : ℕ) (x : Sized) (within : i < length xs)
    (is : x ≡ get_or xs i x) where
  pub grows_by : (numbers : List ℕ) (left room : ℕ) (whole : List ℕ) → counts sh floor position x ≡ true
      → (left ≡ 0 → ⊥) → x.bytes ≤ room
      → Grows numbers left room (ahead sh floor position xs i) whole
      → Grows (numbers ++ x.seq ∷ []) (left - 1) (room - x.bytes) (ahead sh floor position xs (i + 1)) whole
  grows_by numbers left room whole t some small h =
      let rest = ahead sh floor position xs (i + 1) in
      let one : beginning left room (ahead sh floor position xs i)
      ≡ logged x ∷ beginning (left - 1) (room - x.bytes) rest =
      ap (beginning left room) (ahead_more sh floor position xs i x true within is t)
      ∙ beginning_one left room (logged x) rest some (is_le x.bytes room small) in
      append_assoc numbers (x.seq ∷ []) (numbers_of (beginning (left - 1) (room - x.bytes) rest))
      ∙ ap (λ taken. numbers ++ numbers_of taken) (sym one) ∙ h

pub grows_all : (sh floor position : ℕ) (xs : List Sized) (i : ℕ) (numbers : List ℕ) (left room : ℕ) (whole : List ℕ)
    → length xs ≤ i
    → Grows numbers left room (ahead sh floor position xs i) whole → numbers ≡ whole
grows_all sh floor position xs i numbers left room whole le h =
    sym (append-nil numbers)
    ∙ ap (λ taken. numbers ++ numbers_of taken)
    (sym (ap (λ ys. beginning left room (left_in sh floor position ys)) (drop_all i xs le)
    ∙ beginning_none left room)) ∙ h

-- ---- The sequence numbers of a batch are below a bound

-- The model's sequence numbers are below `top`.
abbrev pub AreBelow : ℕ → List Sized → Type 0
AreBelow top rs = AllByRecursion (λ (r : Sized). r.seq < top) rs

-- The sequence numbers are below `top`.
abbrev pub below : ℕ → List Logged → Type 0
below top rs = AllByRecursion (λ (r : Logged). r.seq < top) rs

below_in : (top sh : ℕ) (rs : List Sized) → AreBelow top rs → below top (records_in rs sh)
below_in top sh [] h = tt
below_in top sh (r ∷ rs) h = grind (arith, below_in top sh rs h.1)

pub below_left : (top floor position : ℕ) (rs : List Logged) → below top rs → below top (left_among floor position rs)
below_left top floor position rs h = all_filter (λ (r : Logged). r.seq < top) (is_left floor position) rs h

pub below_beginning : (top limit room : ℕ) (rs : List Logged) → below top rs → below top (beginning limit room rs)
below_beginning top zero room rs h = tt
below_beginning top (suc limit) room [] h = tt
below_beginning top (suc limit) room (r ∷ rs) h = grind (arith, below_beginning top limit (room - r.bytes) rs h.1)

below_numbers : (top : ℕ) (rs : List Logged) → below top rs → AllByRecursion (λ n. n < top) (numbers_of rs)
below_numbers top [] h = tt
below_numbers top (r ∷ rs) h = (h.0, below_numbers top rs h.1)

pub batch_below : (top sh floor position limit room : ℕ) (rs : List Sized) → AreBelow top rs
    → AllByRecursion (λ n. n < top) (numbers_of (beginning limit room (left_among floor position (records_in rs sh))))
batch_below top sh floor position limit room rs h =
    below_numbers top _ (below_beginning top limit room _ (below_left top floor position _ (below_in top sh rs h)))
