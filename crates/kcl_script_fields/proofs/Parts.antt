-- What comes before and after the first byte `sep` of a text.
use Rattle.std.proofs.Common.{◌≡◌, ℕ, zero, suc, ◌+◌, ◌<◌, List, length, [], ◌∷◌, ◌++◌, take, drop, Bool, true, false}
use Rattle.std.proofs.Common.{Option, Some, None, refl, ap, ◌∙◌, inl, inr, subst, arith}
use Rattle.std.proofs.lemmas.Bool.{cases_Bool, eqb-true, and_parts}
use Rattle.std.specs.Prelude.{◌==◌, if◌then◌else◌, option_map}
use Rattle.std.specs.List.{list_all}
use Rattle.memchr.specs.Find.{NoneBefore, Passes, is_byte}
use Rattle.kcl_script_fields.specs.Fields.{◌>>=◌, parted, Lacks}

pub lacks-append : (sep : ℕ) (a b : List ℕ) → Lacks sep a → Lacks sep b → Lacks sep (a ++ b)
lacks-append sep [] b n m = m
lacks-append sep (x ∷ a) b n m = (n.0, lacks-append sep a b n.1 m)

pub parted_at : (sep : ℕ) (a b : List ℕ) → Lacks sep a → (sep == sep) ≡ true → parted sep (a ++ sep ∷ b) ≡ Some (a, b)
parted_at sep [] b n e = rw e refl
parted_at sep (x ∷ a) b n e = rw (n.0, parted_at sep a b n.1 e) refl

pub parted_none : (sep : ℕ) (text : List ℕ) → Lacks sep text → parted sep text ≡ None
parted_none sep [] n = refl
parted_none sep (b ∷ bs) n = rw (n.0, parted_none sep bs n.1) refl

other_byte : (sep b : ℕ) → ((b == sep) ≡ true → ⊥) → (b == sep) ≡ false
other_byte sep b differs = elim (cases_Bool (b == sep)) [
  | inl same ↦ absurd (differs same)
  | inr other ↦ other
]

found_at : (sep : ℕ) (text : List ℕ) (index : ℕ) → index < length text
    → ((k : ℕ) → k < index → Passes (is_byte sep) text k → ⊥)
    → Passes (is_byte sep) text index → parted sep text ≡ Some (take index text, drop (suc index) text)
found_at sep [] index within is_before here = absurd (omega arith)
found_at sep (b ∷ bs) zero within is_before here = rw here refl
found_at sep (b ∷ bs) (suc index) within is_before here =
    rw (
      other_byte sep b (is_before 0 (omega arith)),
      found_at sep bs index (omega arith) (λ k lt. is_before (suc k) (omega arith)) here,
    ) refl

pub parted_found : (sep : ℕ) (text : List ℕ) (index : ℕ) → NoneBefore (Passes (is_byte sep) text) 0 (length text) index
    × Passes (is_byte sep) text index → parted sep text ≡ Some (take index text, drop (index + 1) text)
parted_found sep text index found =
    let next : suc index ≡ index + 1 = omega arith in
    found_at sep text index found.0.high (λ k lt. found.0.before k (omega arith) lt) found.1
    ∙ ap (λ n. Some (take index text, drop n text)) next

pub parted_nowhere : (sep : ℕ) (text : List ℕ) → ((k : ℕ) → k < length text → Passes (is_byte sep) text k → ⊥)
    → parted sep text ≡ None
parted_nowhere sep [] nowhere = refl
parted_nowhere sep (b ∷ bs) nowhere =
    rw (other_byte sep b (nowhere 0 (omega arith)), parted_nowhere sep bs (λ k lt. nowhere (suc k) (omega arith)))
    refl

-- The text is `p.0` without `sep`, then `sep`, then `p.1`.
abbrev pub IsParted : ℕ → List ℕ → List ℕ × List ℕ → Type 0
IsParted sep text p = (text ≡ p.0 ++ sep ∷ p.1) × Lacks sep p.0

parted_rest : (sep b : ℕ) (bs : List ℕ) (o : Option (List ℕ × List ℕ)) (p : List ℕ × List ℕ) → (b == sep) ≡ false
    → ((q : List ℕ × List ℕ) → o ≡ Some q → IsParted sep bs q) → option_map (λ (q : List ℕ × List ℕ). (b ∷ q.0, q.1)) o
    ≡ Some p → IsParted sep (b ∷ bs) p
parted_rest sep b bs None p n rest e = absurd (cc)
parted_rest sep b bs (Some q) p n rest e =
    let same : (b ∷ q.0, q.1) ≡ p = cc in
    let f = rest q refl in
    subst (λ (z : List ℕ × List ℕ). IsParted sep (b ∷ bs) z) same (ap (λ z. b ∷ z) f.0, (n, f.1))

parted_cases : (sep : ℕ) (c : Bool) (b : ℕ) (bs : List ℕ) (p : List ℕ × List ℕ) → (b == sep) ≡ c
    → ((q : List ℕ × List ℕ) → parted sep bs ≡ Some q → IsParted sep bs q)
    → (if c then Some ([], bs) else option_map (λ (q : List ℕ × List ℕ). (b ∷ q.0, q.1)) (parted sep bs)) ≡ Some p
    → IsParted sep (b ∷ bs) p
parted_cases sep true b bs p c rest e =
    let same : ([], bs) ≡ p = cc in
    let byte : b ≡ sep = eqb-true b sep c in
    subst (λ (z : List ℕ × List ℕ). IsParted sep (b ∷ bs) z) same (ap (λ z. z ∷ bs) byte, tt)
parted_cases sep false b bs p c rest e = parted_rest sep b bs (parted sep bs) p c rest e

pub parted_spells : (sep : ℕ) (text : List ℕ) (p : List ℕ × List ℕ) → parted sep text ≡ Some p → IsParted sep text p
parted_spells sep [] p e = absurd (cc)
parted_spells sep (b ∷ bs) p e = parted_cases sep (b == sep) b bs p refl (parted_spells sep bs) e

-- ---- Texts of bytes of one kind

kind_not : (p : ℕ → Bool) (sep b : ℕ) → p sep ≡ false → p b ≡ true → (b == sep) ≡ false
kind_not p sep b lacks has = elim (cases_Bool (b == sep)) [
  | inl same ↦ let bad : p sep ≡ true = subst (λ (z : ℕ). p z ≡ true) (eqb-true b sep same) has in absurd (cc)
  | inr other ↦ other
]

pub kind_lacks : (p : ℕ → Bool) (sep : ℕ) (text : List ℕ) → p sep ≡ false → list_all p text ≡ true → Lacks sep text
kind_lacks p sep [] lacks all = tt
kind_lacks p sep (b ∷ bs) lacks all = let h = and_parts (p b) (list_all p bs) all in
    (kind_not p sep b lacks h.0, kind_lacks p sep bs lacks h.1)

-- ---- Reading on after an Option

pub bind_some : {A B : Type 0} (o : Option A) (f : A → Option B) (y : B) → (o >>= f) ≡ Some y → (x : A) × (o ≡ Some x)
    × (f x ≡ Some y)
bind_some None f y h = absurd (cc)
bind_some (Some x) f y h = (x, refl, h)

pub map_some : {A B : Type 0} (f : A → B) (o : Option A) (y : B) → option_map f o ≡ Some y → (x : A) × (o ≡ Some x)
    × (f x ≡ y)
map_some f None y h = absurd (cc)
map_some f (Some x) y h = let same : f x ≡ y = cc in (x, refl, same)
