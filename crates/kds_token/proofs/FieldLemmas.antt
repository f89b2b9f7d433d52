-- The first field of a text is found, and the fields of tokens are bytes without colons.
use Rattle.std.proofs.Common.{◌≡◌, ℕ, zero, suc, ◌+◌, ◌<◌, ◌^◌, List, length, [], ◌∷◌, ◌++◌, take, drop, Bool, true}
use Rattle.std.proofs.Common.{false, Option, Some, None, refl, ap, ◌∙◌, arith, decimal, inl, inr, subst}
use Rattle.std.proofs.lemmas.Grind.{common_steps}
use Rattle.std.proofs.lemmas.Bool.{cases_Bool, eqb-true, and_parts}
use Rattle.std.proofs.lemmas.Fmt.{digits_decimal}
use Rattle.std.specs.Prelude.{◌==◌, if◌then◌else◌, option_map}
use Rattle.std.specs.List.{list_all}
use Rattle.std.specs.Char.{is_ascii_digit}
use Rattle.kds_base.proofs.NumberLemmas.{own}
use Rattle.memchr.specs.Find.{NoneBefore, Passes, is_byte}
use Rattle.kds_token.specs.Fields.{◌>>=◌, field, HasNoColon}

pub field_at : (a b : List ℕ) → HasNoColon a → field (a ++ 58 ∷ b) ≡ Some (a, b)
field_at [] b n = refl
field_at (x ∷ a) b n = rw (n.0, field_at a b n.1) refl

-- ---- Where a search finds a colon

other_byte : (b : ℕ) → ((b == 58) ≡ true → ⊥) → (b == 58) ≡ false
other_byte b differs = elim (cases_Bool (b == 58)) [
  | inl same ↦ absurd (differs same)
  | inr other ↦ other
]

found_at : (text : List ℕ) (index : ℕ) → index < length text → ((k : ℕ) → k < index → Passes (is_byte 58) text k → ⊥)
    → Passes (is_byte 58) text index → field text ≡ Some (take index text, drop (suc index) text)
found_at [] index within is_before here = absurd (omega arith)
found_at (b ∷ bs) zero within is_before here = rw here refl
found_at (b ∷ bs) (suc index) within is_before here =
    rw (
      other_byte b (is_before 0 (omega arith)),
      found_at bs index (omega arith) (λ k lt. is_before (suc k) (omega arith)) here,
    ) refl

pub field_found : (text : List ℕ) (index : ℕ) → NoneBefore (Passes (is_byte 58) text) 0 (length text) index
    × Passes (is_byte 58) text index → field text ≡ Some (take index text, drop (index + 1) text)
field_found text index found =
    let next : suc index ≡ index + 1 = omega arith in
    found_at text index found.0.high (λ k lt. found.0.before k (omega arith) lt) found.1
    ∙ ap (λ n. Some (take index text, drop n text)) next

pub field_nowhere : (text : List ℕ) → ((k : ℕ) → k < length text → Passes (is_byte 58) text k → ⊥) → field text ≡ None
field_nowhere [] nowhere = refl
field_nowhere (b ∷ bs) nowhere =
    rw (other_byte b (nowhere 0 (omega arith)), field_nowhere bs (λ k lt. nowhere (suc k) (omega arith))) refl

-- ---- A text is its first field, a colon and the rest

-- The text is the first part of `p`, which has no colon, then a colon and the second part.
abbrev pub IsField : List ℕ → List ℕ × List ℕ → Type 0
IsField text p = (text ≡ p.0 ++ 58 ∷ p.1) × HasNoColon p.0

field_rest : (b : ℕ) (bs : List ℕ) (o : Option (List ℕ × List ℕ)) (p : List ℕ × List ℕ) → (b == 58) ≡ false
    → ((q : List ℕ × List ℕ) → o ≡ Some q → IsField bs q) → option_map (λ (q : List ℕ × List ℕ). (b ∷ q.0, q.1)) o
    ≡ Some p → IsField (b ∷ bs) p
field_rest b bs None p n rest e = absurd (cc)
field_rest b bs (Some q) p n rest e =
    let same : (b ∷ q.0, q.1) ≡ p = cc in
    let f = rest q refl in
    subst (λ (z : List ℕ × List ℕ). IsField (b ∷ bs) z) same (ap (λ z. b ∷ z) f.0, (n, f.1))

field_cases : (c : Bool) (b : ℕ) (bs : List ℕ) (p : List ℕ × List ℕ) → (b == 58) ≡ c
    → ((q : List ℕ × List ℕ) → field bs ≡ Some q → IsField bs q)
    → (if c then Some ([], bs) else option_map (λ (q : List ℕ × List ℕ). (b ∷ q.0, q.1)) (field bs)) ≡ Some p
    → IsField (b ∷ bs) p
field_cases true b bs p c rest e =
    let same : ([], bs) ≡ p = cc in
    let colon : b ≡ 58 = eqb-true b 58 c in
    subst (λ (z : List ℕ × List ℕ). IsField (b ∷ bs) z) same (ap (λ z. z ∷ bs) colon, tt)
field_cases false b bs p c rest e = field_rest b bs (field bs) p c rest e

pub field_spells : (text : List ℕ) (p : List ℕ × List ℕ) → field text ≡ Some p → IsField text p
field_spells [] p e = absurd (cc)
field_spells (b ∷ bs) p e = field_cases (b == 58) b bs p refl (field_spells bs) e

-- ---- Steps that may fail

pub bind_some : {A B : Type 0} (o : Option A) (f : A → Option B) (y : B) → (o >>= f) ≡ Some y → (x : A) × (o ≡ Some x)
    × (f x ≡ Some y)
bind_some None f y h = absurd (cc)
bind_some (Some x) f y h = (x, refl, h)

-- ---- Digits

digit_no_colon : (b : ℕ) → is_ascii_digit b ≡ true → (b == 58) ≡ false
digit_no_colon b h = grind (arith, common_steps)

digit_small : (b : ℕ) → is_ascii_digit b ≡ true → b < 256
digit_small b h = grind (arith, common_steps)

digits_no_colon : (ds : List ℕ) → list_all is_ascii_digit ds ≡ true → HasNoColon ds
digits_no_colon [] h = tt
digits_no_colon (d ∷ ds) h = let p = and_parts (is_ascii_digit d) (list_all is_ascii_digit ds) h in
    (digit_no_colon d p.0, digits_no_colon ds p.1)

pub decimal_no_colon : (n : ℕ) → n < 2 ^ 64 → HasNoColon (decimal n)
decimal_no_colon n small = digits_no_colon (decimal n) (digits_decimal own n small)

-- All numbers of the list are bytes.
abbrev pub AreSmall : List ℕ → Type 0
AreSmall [] = Unit {0}
AreSmall (b ∷ bs) = (b < 256) × AreSmall bs

digits_small : (ds : List ℕ) → list_all is_ascii_digit ds ≡ true → AreSmall ds
digits_small [] h = tt
digits_small (d ∷ ds) h = let p = and_parts (is_ascii_digit d) (list_all is_ascii_digit ds) h in
    (digit_small d p.0, digits_small ds p.1)

pub decimal_small : (n : ℕ) → n < 2 ^ 64 → AreSmall (decimal n)
decimal_small n small = digits_small (decimal n) (digits_decimal own n small)

pub small-append : (a b : List ℕ) → AreSmall a → AreSmall b → AreSmall (a ++ b)
small-append [] b n m = m
small-append (x ∷ a) b n m = (n.0, small-append a b n.1 m)
