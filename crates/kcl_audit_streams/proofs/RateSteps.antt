-- Puts of one second, and their bytes, are counted record by record.
use Rattle.std.proofs.Common.{◌≡◌, ℕ, ◌+◌, ◌-◌, ◌^◌, ◌<◌, ◌≤◌, min, Bool, List, ◌∷◌, length, get_or, drop, sym, ap, ◌∙◌}
use Rattle.std.specs.Prelude.{if◌then◌else◌}
use Rattle.std.proofs.lemmas.List.{at_drop_more}
use Rattle.kds_defs.specs.Rates.{SizedPut, bytes_of, window}
use Rattle.kcl_audit_streams.specs.declared.records.Sized.{Sized}
use Rattle.kcl_audit_streams.specs.Standing.{is_in, puts_from, puts_in}

-- The put of a record: arrival and size.
abbrev pub sized : Sized → SizedPut
sized r = record { clock = r.arrival; bytes = r.bytes }

-- `count` and `held` are number and bytes, up to 2^64 - 1, for the shard's puts before `i` in the clock's second.
pub record IsTaken (sh c : ℕ) (xs : List Sized) (i count held : ℕ) : Type 0 where
  pub before : List SizedPut
  pub all : puts_from before (drop i xs) sh ≡ puts_in xs sh
  pub many : count ≡ length (window c before)
  pub sum : held ≡ min (bytes_of (window c before)) (2 ^ 64 - 1)
  pub few : count ≤ i

module _ (sh c : ℕ) (xs : List Sized) (i : ℕ) (x : Sized) (within : i < length xs) (is : x ≡ get_or xs i x) where
  more : (old : List SizedPut) (b : Bool) → is_in sh x ≡ b
      → puts_from old (drop i xs) sh ≡ puts_from (if b then sized x ∷ old else old) (drop (i + 1) xs) sh
  more old b in_it =
      at_drop_more (λ ys. puts_from old ys sh) xs i x within
      ∙ ap (λ (y : Sized). puts_from old (y ∷ drop (i + 1) xs) sh) (sym is)
      ∙ ap (λ (t : Bool). puts_from (if t then sized x ∷ old else old) (drop (i + 1) xs) sh) in_it
