-- One list for each shard stays right after a put and answers all questions about the shard.
use Rattle.std.proofs.Common.{◌≡◌, ℕ, zero, suc, ◌<◌, Bool, true, false, List, [], ◌∷◌, ◌++◌, length, map, refl}
use Rattle.std.proofs.Common.{get_or, sym, ap, ◌∙◌, arith}
use Rattle.std.specs.Prelude.{◌==◌, cond, if◌then◌else◌, slice_set}
use Rattle.std.specs.List.{filter}
use Rattle.std.proofs.lemmas.Bool.Decides.{nat_tests}
use Rattle.std.proofs.lemmas.List.{append-nil}
use Rattle.std.proofs.lemmas.List.Elements.{filter-append}
use Rattle.kds_defs.specs.Rates.{SizedPut}
use Rattle.kcl_audit_streams.specs.declared.records.Sized.{Sized}
use Rattle.kcl_audit_streams.specs.Apart.{AreApart, records_at}
use Rattle.kcl_audit_streams.specs.Standing.{is_in, logged, puts_from, puts_in, records_in}
use Rattle.kcl_audit_streams.proofs.RateSteps.{sized}

-- ---- The list of one shard

twice_one : (sh : ℕ) (x : Sized) (xs : List Sized) (b : Bool) → is_in sh x ≡ b
    → filter (is_in sh) xs ≡ filter (is_in sh) (filter (is_in sh) xs)
    → cond b (x ∷ filter (is_in sh) xs) (filter (is_in sh) xs)
    ≡ filter (is_in sh) (cond b (x ∷ filter (is_in sh) xs) (filter (is_in sh) xs))
twice_one sh x xs true e h =
    ap (λ ys. x ∷ ys) h
    ∙ sym (ap (λ c. cond c (x ∷ filter (is_in sh) (filter (is_in sh) xs)) (filter (is_in sh) (filter (is_in sh) xs))) e)
twice_one sh x xs false e h = h

pub twice : (sh : ℕ) (xs : List Sized) → filter (is_in sh) xs ≡ filter (is_in sh) (filter (is_in sh) xs)
twice sh [] = refl
twice sh (x ∷ xs) = twice_one sh x xs (is_in sh x) refl (twice sh xs)

-- A shard's own list has the shard's records of the whole list.
pub records_own : (sh : ℕ) (xs own : List Sized) → own ≡ filter (is_in sh) xs → records_in own sh ≡ records_in xs sh
records_own sh xs own is = ap (λ ys. map logged (filter (is_in sh) ys)) is ∙ ap (map logged) (sym (twice sh xs))

puts_one : (sh : ℕ) (old : List SizedPut) (x : Sized) (xs : List Sized) (b : Bool) → is_in sh x ≡ b
    → ((ps : List SizedPut) → puts_from ps xs sh ≡ puts_from ps (filter (is_in sh) xs) sh)
    → puts_from (if b then sized x ∷ old else old) xs sh
    ≡ puts_from old (cond b (x ∷ filter (is_in sh) xs) (filter (is_in sh) xs)) sh
puts_one sh old x xs true e h =
    h (sized x ∷ old)
    ∙ sym (ap (λ c. puts_from (if c then sized x ∷ old else old) (filter (is_in sh) xs) sh) e)
puts_one sh old x xs false e h = h old

puts_of_own : (sh : ℕ) (xs : List Sized) (old : List SizedPut)
    → puts_from old xs sh ≡ puts_from old (filter (is_in sh) xs) sh
puts_of_own sh [] old = refl
puts_of_own sh (x ∷ xs) old = puts_one sh old x xs (is_in sh x) refl (puts_of_own sh xs)

pub puts_own : (sh : ℕ) (xs own : List Sized) → own ≡ filter (is_in sh) xs → puts_in own sh ≡ puts_in xs sh
puts_own sh xs own is = ap (λ ys. puts_in ys sh) is ∙ sym (puts_of_own sh xs [])

-- ---- A put keeps the lists right

set_here : (shards : List (List Sized)) (n : ℕ) (rs : List Sized) → n < length shards
    → records_at (slice_set shards n rs) n ≡ rs
set_here [] n rs lt = absurd (omega arith)
set_here (s ∷ shards) zero rs lt = refl
set_here (s ∷ shards) (suc n) rs lt = set_here shards n rs (omega arith)

set_there : (shards : List (List Sized)) (n sh : ℕ) (rs : List Sized) → (sh ≡ n → ⊥)
    → records_at (slice_set shards n rs) sh ≡ records_at shards sh
set_there [] n sh rs other = refl
set_there (s ∷ shards) zero zero rs other = absurd (other refl)
set_there (s ∷ shards) zero (suc sh) rs other = refl
set_there (s ∷ shards) (suc n) zero rs other = refl
set_there (s ∷ shards) (suc n) (suc sh) rs other = set_there shards n sh rs (λ e. other (ap suc e))

put_one : (shards : List (List Sized)) (all : List Sized) (item : Sized) (sh : ℕ) (b : Bool) → is_in sh item ≡ b
    → AreApart shards all → item.shard < length shards
    → records_at (slice_set shards item.shard (records_at shards item.shard ++ item ∷ [])) sh
    ≡ filter (is_in sh) all ++ cond b (item ∷ []) []
put_one shards all item sh true e apart lt =
    let same : item.shard ≡ sh = same_shard item.shard sh e in
    ap (records_at (slice_set shards item.shard (records_at shards item.shard ++ item ∷ []))) (sym same)
    ∙ set_here shards item.shard (records_at shards item.shard ++ item ∷ []) lt
    ∙ ap (λ n. records_at shards n ++ item ∷ []) same
    ∙ ap (λ rs. rs ++ item ∷ []) (apart sh)
  where
    same_shard : (n m : ℕ) → (n == m) ≡ true → n ≡ m
    same_shard n m e = grind (arith, nat_tests)
put_one shards all item sh false e apart lt =
    set_there shards item.shard sh (records_at shards item.shard ++ item ∷ [])
    (λ same. other_shard item.shard sh e (sym same))
    ∙ apart sh ∙ sym (append-nil (filter (is_in sh) all))
  where
    other_shard : (n m : ℕ) → (n == m) ≡ false → n ≡ m → ⊥
    other_shard n m e same = grind (arith, nat_tests)

pub apart_put : (shards : List (List Sized)) (all : List Sized) (item : Sized) → AreApart shards all
    → item.shard < length shards
    → AreApart (slice_set shards item.shard (records_at shards item.shard ++ item ∷ [])) (all ++ item ∷ [])
apart_put shards all item apart lt = λ sh.
    put_one shards all item sh (is_in sh item) refl apart lt
    ∙ sym (filter-append (is_in sh) all (item ∷ []))

pub at_index : (shards : List (List Sized)) (n : ℕ) (d : List Sized) → n < length shards
    → get_or shards n d ≡ records_at shards n
at_index [] n d lt = absurd (omega arith)
at_index (rs ∷ shards) zero d lt = refl
at_index (rs ∷ shards) (suc n) d lt = at_index shards n d (omega arith)
