-- A batch that the code collects record by record is the batch of the definition.
use Rattle.std.proofs.Common.{◌≡◌, ℕ, ◌+◌, ◌-◌, ◌<◌, ◌≤◌, List, [], ◌∷◌, ◌++◌, None, length, get_or, drop, map, sym, ap}
use Rattle.std.proofs.Common.{◌∙◌}
use Rattle.std.proofs.lemmas.List.{at_drop_more, drop_all, append-nil, append_assoc}
use Rattle.kds_base.proofs.Facts.{is_le}
use Rattle.kds_defs.specs.Records.{Logged, beginning, logged, stored}
use Rattle.kds_defs.specs.declared.reply.Stored.{Stored}
use Rattle.kds_defs.proofs.Batches.{beginning_one, beginning_none}
use Rattle.kds_log.specs.Log.{first_number}

-- The records from the index `i` on.
abbrev pub ahead : List Stored → ℕ → List Logged
ahead xs i = map logged (drop i xs)

pub ahead_more : (xs : List Stored) (i : ℕ) (x : Stored) → i < length xs → x ≡ get_or xs i x
    → ahead xs i ≡ logged x ∷ ahead xs (i + 1)
ahead_more xs i x lt is =
    at_drop_more (λ ys. map logged ys) xs i x lt
    ∙ ap (λ (y : Stored). logged y ∷ ahead xs (i + 1)) (sym is)

pub ahead_none : (xs : List Stored) (i : ℕ) → length xs ≤ i → ahead xs i ≡ []
ahead_none xs i le = ap (map logged) (drop_all i xs le)

-- ---- Batches

-- The records collected, followed by the batch of `rest` within what is left of the limits, are the whole batch.
abbrev pub Grows : List Stored → ℕ → ℕ → List Logged → List Stored → Type 0
Grows batch left room rest whole = batch ++ map stored (beginning left room rest) ≡ whole

pub grows_by : (xs : List Stored) (i : ℕ) (x : Stored) → i < length xs → x ≡ get_or xs i x
    → (batch : List Stored) (left room bytes : ℕ) (whole : List Stored) → (left ≡ 0 → ⊥) → bytes ≡ (logged x).bytes
    → bytes ≤ room
    → Grows batch left room (ahead xs i) whole
    → Grows (batch ++ x ∷ []) (left - 1) (room - bytes) (ahead xs (i + 1)) whole
grows_by xs i x within is batch left room bytes whole some same small h =
    let rest = ahead xs (i + 1) in
    let small' : (logged x).bytes ≤ room = rw same at small in
    let one : beginning left room (ahead xs i) ≡ logged x ∷ beginning (left - 1) (room - bytes) rest =
    ap (beginning left room) (ahead_more xs i x within is)
    ∙ beginning_one left room (logged x) rest some (is_le (logged x).bytes room small')
    ∙ ap (λ n. logged x ∷ beginning (left - 1) (room - n) rest) (sym same) in
    append_assoc batch (x ∷ []) (map stored (beginning (left - 1) (room - bytes) rest))
    ∙ ap (λ taken. batch ++ map stored taken) (sym one) ∙ h

pub grows_all : (xs : List Stored) (i : ℕ) (batch : List Stored) (left room : ℕ) (whole : List Stored) → length xs ≤ i
    → Grows batch left room (ahead xs i) whole → batch ≡ whole
grows_all xs i batch left room whole le h =
    sym (append-nil batch)
    ∙ ap (λ taken. batch ++ map stored taken)
    (sym (ap (beginning left room) (ahead_none xs i le) ∙ beginning_none left room)) ∙ h

-- ---- The first record from an index on

module _ (xs : List Stored) (i : ℕ) (rs : List Logged) (is_rest : rs ≡ ahead xs i) where
  pub no_number : length xs ≤ i → None ≡ first_number rs
  no_number le = sym (ap first_number (is_rest ∙ ahead_none xs i le))
