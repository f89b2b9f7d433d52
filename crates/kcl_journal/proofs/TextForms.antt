-- Round trips of numbers, hash keys, names, switches and sizes, whose texts have no space.
use Rattle.std.proofs.Common.{◌≡◌, ℕ, ◌+◌, ◌<◌, ◌≤◌, ◌^◌, List, ◌∷◌, ◌++◌, Bool, true, false, Option, Some, None, refl}
use Rattle.std.proofs.Common.{sym, ap, ◌∙◌, arith, codes, decimal, inl, inr, subst}
use Rattle.std.proofs.lemmas.Grind.{common_steps}
use Rattle.std.proofs.lemmas.Bool.{cases_Bool, and_parts}
use Rattle.std.proofs.lemmas.Slice.Eq.{bytes_eq-Decides}
use Rattle.std.specs.Char.{is_ascii_digit}
use Rattle.std.specs.Prelude.{◌&&◌, if◌then◌else◌, option_map, option_and_then, nat_le}
use Rattle.std.specs.Str.{bytes_eq}
use Rattle.kds_base.specs.Names.{IsName, is_name, is_name_byte, name_of}
use Rattle.kds_base.specs.NumberText.{number_of}
use Rattle.kds_base.proofs.NumberLemmas.{decimal_of_number, decimal_plain, few_digits, fits, number_of_decimal}
use Rattle.kds_base.proofs.NumberLemmas.{plain_digits, reads, spells}
use Rattle.kds_defs.specs.declared.limits.TheConstants.{RECORD_BYTES}
use Rattle.kcl_script_fields.specs.Fields.{Lacks, two}
use Rattle.kcl_script_fields.proofs.Forms.{IsForm, decimal_lacks, two_form}
use Rattle.kcl_script_fields.proofs.Parts.{kind_lacks, map_some}
use Rattle.kcl_script_fields.proofs.RawLemmas.{choose}
use Rattle.kcl_journal.specs.declared.line.TheConstants.{FIRST_RECORD_BYTES, KEY_BYTES}
use Rattle.kcl_journal.specs.Entries.{counter_of, fitting, greatest64, hash_of, sizes_by, sizes_text_by, switch_of}
use Rattle.kcl_journal.specs.Entries.{switch_text, within, within_of}
use Rattle.kcl_journal.specs.Ranges.{AreSizesBy, Is64, IsHash}

-- ---- Numbers in a range

-- The number is from `least` to `most`, both included.
abbrev pub IsWithin : ℕ → ℕ → ℕ → Type 0
IsWithin least most n = (least ≤ n) × (n ≤ most)

within_is : (least most n m : ℕ) → within least most n ≡ Some m → (n ≡ m) × IsWithin least most n
within_is least most n m h = elim (cases_Bool (nat_le least n && nat_le n most)) [
  | inl inside ↦ let e : Some n ≡ Some m = rw inside at h in let same : n ≡ m = cc in
      (same, (grind (arith, common_steps), grind (arith, common_steps)))
  | inr beyond ↦ let e : None ≡ Some m = rw beyond at h in absurd (cc)
]

within_again : (least most n : ℕ) → IsWithin least most n → within least most n ≡ Some n
within_again least most n v = grind (arith, common_steps, v.0, v.1)

within_of_text : (least most : ℕ) (o : Option ℕ) (text : List ℕ) (m : ℕ) → number_of 64 text ≡ o
    → option_and_then (within least most) o ≡ Some m → IsWithin least most m × (text ≡ decimal m)
within_of_text least most None text m e h = absurd (cc)
within_of_text least most (Some n) text m e h =
    let t = within_is least most n m h in
    let d = decimal_of_number text n e in
    (subst (λ (z : ℕ). IsWithin least most z) t.0 t.1, d.0 ∙ ap decimal t.0)

pub within_form : (least most : ℕ) → most < 2 ^ 64 → IsForm (IsWithin least most) (within_of least most) decimal
within_form least most small = record {
  spells = λ text m h. within_of_text least most (number_of 64 text) text m refl h;
  again = λ m v. ap (option_and_then (within least most)) (number_of_decimal m (omega (arith, v.1)))
      ∙ within_again least most m v;
}

pub within_lacks : (least most : ℕ) → most < 2 ^ 64 → (n : ℕ) → IsWithin least most n → Lacks 32 (decimal n)
within_lacks least most small n v = decimal_lacks 32 n refl (omega (arith, v.1, small))

-- The number can be a counter after a write: at least 1, and 64 bits.
abbrev pub IsCounted : ℕ → Type 0
IsCounted n = IsWithin 1 greatest64 n

pub counter_form : IsForm IsCounted counter_of decimal
counter_form = let f = within_form 1 greatest64 (omega arith) in record { spells = f.spells; again = f.again }

pub counter_lacks : (n : ℕ) → IsCounted n → Lacks 32 (decimal n)
counter_lacks n v = within_lacks 1 greatest64 (omega arith) n v

pub number_lacks : (n : ℕ) → Is64 n → Lacks 32 (decimal n)
number_lacks n v = decimal_lacks 32 n refl v

-- ---- Hash keys

pub hash_form : IsForm IsHash hash_of decimal
hash_form = record {
  spells = λ text n h. (fits 128 n text h, spells 128 n text (omega arith) h);
  again = λ n v. reads 128 n (omega arith) v;
}

pub hash_without : (sep n : ℕ) → is_ascii_digit sep ≡ false → IsHash n → Lacks sep (decimal n)
hash_without sep n other small =
    kind_lacks is_ascii_digit sep (decimal n) other
    (plain_digits (decimal n) (decimal_plain n (few_digits 128 n (omega arith) small))).0

pub hash_lacks : (n : ℕ) → IsHash n → Lacks 32 (decimal n)
hash_lacks n small = hash_without 32 n refl small

-- ---- Names

name_is : (c : Bool) (text name : List ℕ) → is_name text ≡ c → (if c then Some text else None) ≡ Some name
    → IsName name × (text ≡ name)
name_is false text name c h = absurd (cc)
name_is true text name c h = let same : text ≡ name = cc in (subst (λ (z : List ℕ). IsName z) same c, same)

name_again : (name : List ℕ) → IsName name → name_of name ≡ Some name
name_again name v = rw v refl

-- A name is its own text.
abbrev pub same_text : List ℕ → List ℕ
same_text name = name

pub name_form : IsForm IsName name_of same_text
name_form = record { spells = λ text name h. name_is (is_name text) text name refl h; again = name_again }

pub name_without : (sep : ℕ) (name : List ℕ) → is_name_byte sep ≡ false → IsName name → Lacks sep name
name_without sep name other v = kind_lacks is_name_byte sep name other (and_parts _ _ v).1

pub name_lacks : (name : List ℕ) → IsName name → Lacks 32 name
name_lacks name v = name_without 32 name refl v

-- ---- Switches: `on` and `off`

-- Each Bool has a text as a switch.
abbrev pub IsSwitch : Bool → Type 0
IsSwitch is_on = Unit {0}

switch_spells : (text : List ℕ) (is_on : Bool) → switch_of text ≡ Some is_on → IsSwitch is_on
    × (text ≡ switch_text is_on)
switch_spells text is_on h = choose (bytes_eq text (codes "on")) _ _ is_on h
    (λ same e. let is : true ≡ is_on = cc in (tt, (bytes_eq-Decides text (codes "on")).0 same ∙ ap switch_text is))
    (λ h. choose (bytes_eq text (codes "off")) _ _ is_on h
    (λ same e. let is : false ≡ is_on = cc in (tt, (bytes_eq-Decides text (codes "off")).0 same ∙ ap switch_text is))
    (λ h. absurd (cc)))

switch_again : (is_on : Bool) → IsSwitch is_on → switch_of (switch_text is_on) ≡ Some is_on
switch_again true v = refl
switch_again false v = refl

pub switch_form : IsForm IsSwitch switch_of switch_text
switch_form = record { spells = switch_spells; again = switch_again }

-- ---- The sizes of a put

fitting_is : (o : Option (ℕ × ℕ)) (p : ℕ × ℕ) → option_and_then fitting o ≡ Some p
    → (o ≡ Some p) × (p.0 + p.1 ≤ RECORD_BYTES)
fitting_is None p h = absurd (cc)
fitting_is (Some q) p h = elim (cases_Bool (nat_le (q.0 + q.1) RECORD_BYTES)) [
  | inl fit ↦
      let e : Some q ≡ Some p = rw fit at h in
      let same : q ≡ p = cc in
      let few : q.0 + q.1 ≤ RECORD_BYTES = grind (arith, common_steps) in
      (e, subst (λ (z : ℕ × ℕ). z.0 + z.1 ≤ RECORD_BYTES) same few)
  | inr over ↦ let e : None ≡ Some p = rw over at h in absurd (cc)
]

fitting_again : (p : ℕ × ℕ) → p.0 + p.1 ≤ RECORD_BYTES → fitting p ≡ Some p
fitting_again p few = grind (arith, common_steps, few)

both_form : IsForm (λ (p : ℕ × ℕ). IsWithin 0 RECORD_BYTES p.0 × IsWithin 1 KEY_BYTES p.1)
    (two 32 (within_of 0 RECORD_BYTES) (within_of 1 KEY_BYTES))
    (λ (p : ℕ × ℕ). decimal p.0 ++ 32 ∷ decimal p.1)
both_form = two_form 32 refl (within_lacks 0 RECORD_BYTES (omega arith)) (within_form 0 RECORD_BYTES (omega arith))
    (within_form 1 KEY_BYTES (omega arith))

alone_form : IsForm (IsWithin 0 FIRST_RECORD_BYTES) (within_of 0 FIRST_RECORD_BYTES) decimal
alone_form = within_form 0 FIRST_RECORD_BYTES (omega arith)

sizes_spell : (first : Bool) (text : List ℕ) (p : ℕ × ℕ) → sizes_by first text ≡ Some p → AreSizesBy first p.0 p.1
    × (text ≡ sizes_text_by first p)
sizes_spell true text p h =
    let m = map_some (λ (n : ℕ). let q : ℕ × ℕ = (n, 0) in q) (within_of 0 FIRST_RECORD_BYTES text) p h in
    let d = alone_form.spells text m.0 m.1 in
    subst (λ (z : ℕ × ℕ). AreSizesBy true z.0 z.1 × (text ≡ sizes_text_by true z)) m.2 ((d.0.1, refl), d.1)
sizes_spell false text p h =
    let f = fitting_is _ p h in
    let d = both_form.spells text p f.0 in
    ((d.0.1, f.1), d.1)

sizes_again : (first : Bool) (p : ℕ × ℕ) → AreSizesBy first p.0 p.1 → sizes_by first (sizes_text_by first p) ≡ Some p
sizes_again true p v =
    ap (option_map (λ (n : ℕ). let q : ℕ × ℕ = (n, 0) in q)) (alone_form.again p.0 (omega arith, v.0))
    ∙ (λ i. Some (p.0, sym v.1 i))
sizes_again false p v = ap (option_and_then fitting) (both_form.again p ((omega arith, omega (arith, v.1)), v.0))
    ∙ fitting_again p v.1

-- A round trip of a put's sizes; `first` is for the first version.
pub sizes_form : (first : Bool)
    → IsForm (λ (p : ℕ × ℕ). AreSizesBy first p.0 p.1) (sizes_by first) (sizes_text_by first)
sizes_form first = record { spells = sizes_spell first; again = sizes_again first }
