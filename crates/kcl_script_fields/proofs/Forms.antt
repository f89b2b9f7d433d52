-- Forms, which are readers and writers that agree, of numbers, moments, workers and keys.
use Rattle.std.proofs.Common.{◌≡◌, ℕ, ◌<◌, ◌≤◌, ◌^◌, List, [], ◌∷◌, ◌++◌, Bool, true, false, Option, Some, None, refl}
use Rattle.std.proofs.Common.{ap, ◌∙◌, arith, decimal, inl, inr, subst}
use Rattle.std.proofs.lemmas.Grind.{common_steps}
use Rattle.std.proofs.lemmas.Bool.{cases_Bool, eqb-true}
use Rattle.std.specs.Prelude.{◌==◌, ◌&&◌, if◌then◌else◌, option_map, option_and_then, nat_le}
use Rattle.std.proofs.lemmas.Fmt.{digits_decimal}
use Rattle.std.specs.Char.{is_ascii_digit}
use Rattle.kds_base.specs.declared.lease_key.ShardRef.{ShardRef}
use Rattle.kds_base.specs.Moments.{moment_of}
use Rattle.kds_base.specs.NumberText.{number_of}
use Rattle.kds_base.proofs.MomentLemmas.{moment_spells, moment_again}
use Rattle.kds_base.proofs.NumberLemmas.{own, decimal_of_number, number_of_decimal}
use Rattle.kcl_script_fields.specs.Fields.{parted, Lacks, two, number, from_one_to, count_of}
use Rattle.kcl_script_fields.specs.Fields.{greatest32, worker_of, worker_text, key_from, key_of, key_text}
use Rattle.kcl_script_fields.specs.Commands.{IsKey}
use Rattle.kcl_script_fields.proofs.Parts.{lacks-append, parted_at, parted_spells, kind_lacks, bind_some, map_some}

-- Reader and writer agree on valid values: each valid value has one text, and no other text is read.
pub record IsForm {A : Type 0} (Valid : A → Type 0) (read : List ℕ → Option A) (write : A → List ℕ) : Type 0 where
  pub spells : (text : List ℕ) (x : A) → read text ≡ Some x → Valid x × (text ≡ write x)
  pub again : (x : A) → Valid x → read (write x) ≡ Some x

-- ---- Numbers

-- The number fits into 64 bits.
abbrev pub Is64 : ℕ → Type 0
Is64 n = n < 2 ^ 64

pub number_form : IsForm Is64 number decimal
number_form = record {
  spells = λ text n h. let d = decimal_of_number text n h in (d.1, d.0);
  again = number_of_decimal;
}

-- The number is from 1 to `most`.
abbrev pub IsCount : ℕ → ℕ → Type 0
IsCount most n = (1 ≤ n) × (n ≤ most)

count_is : (most n m : ℕ) → from_one_to most n ≡ Some m → (n ≡ m) × IsCount most n
count_is most n m h = elim (cases_Bool (nat_le 1 n && nat_le n most)) [
  | inl within ↦ let e : Some n ≡ Some m = rw within at h in let same : n ≡ m = cc in
      (same, (grind (arith, common_steps), grind (arith, common_steps)))
  | inr beyond ↦ let e : None ≡ Some m = rw beyond at h in absurd (cc)
]

count_again : (most n : ℕ) → IsCount most n → from_one_to most n ≡ Some n
count_again most n v = grind (arith, common_steps, v.0, v.1)

count_of_text : (most : ℕ) (o : Option ℕ) (text : List ℕ) (m : ℕ) → number_of 64 text ≡ o
    → option_and_then (from_one_to most) o ≡ Some m → IsCount most m × (text ≡ decimal m)
count_of_text most None text m e h = absurd (cc)
count_of_text most (Some n) text m e h =
    let t = count_is most n m h in
    let d = decimal_of_number text n e in
    (subst (λ (z : ℕ). IsCount most z) t.0 t.1, d.0 ∙ ap decimal t.0)

pub count_form : (most : ℕ) → most < 2 ^ 64 → IsForm (IsCount most) (count_of most) decimal
count_form most small = record {
  spells = λ text m h. count_of_text most (number_of 64 text) text m refl h;
  again = λ m v. ap (option_and_then (from_one_to most)) (number_of_decimal m (omega (arith, v.1)))
      ∙ count_again most m v;
}

pub decimal_lacks : (sep n : ℕ) → is_ascii_digit sep ≡ false → n < 2 ^ 64 → Lacks sep (decimal n)
decimal_lacks sep n other small = kind_lacks is_ascii_digit sep (decimal n) other (digits_decimal own n small)

-- ---- Moments

abbrev pub IsMoment : ℕ → Type 0
IsMoment moment = moment < 2 ^ 62

pub moment_form : IsForm IsMoment moment_of decimal
moment_form = record {
  spells = λ text moment h. let d = moment_spells text moment h in (d.1, d.0);
  again = moment_again;
}

-- ---- Workers

-- The number can be a worker's: at least 1, and 32 bits.
abbrev pub IsWorker : ℕ → Type 0
IsWorker n = IsCount greatest32 n

worker_is : (c : Bool) (b : ℕ) (digits : List ℕ) (n : ℕ) → (b == 119) ≡ c
    → (if c then count_of greatest32 digits else None) ≡ Some n → IsWorker n × (b ∷ digits ≡ worker_text n)
worker_is false b digits n c h = absurd (cc)
worker_is true b digits n c h =
    let d = (count_form greatest32 (omega arith)).spells digits n h in
    (d.0, ap (λ z. z ∷ digits) (eqb-true b 119 c) ∙ ap (λ z. 119 ∷ z) d.1)

worker_spells : (text : List ℕ) (n : ℕ) → worker_of text ≡ Some n → IsWorker n × (text ≡ worker_text n)
worker_spells [] n h = absurd (cc)
worker_spells (b ∷ digits) n h = worker_is (b == 119) b digits n refl h

pub worker_form : IsForm IsWorker worker_of worker_text
worker_form = record { spells = worker_spells; again = λ n v. (count_form greatest32 (omega arith)).again n v }

-- ---- Two values, one after the other

-- A round trip of pairs with the byte `sep` between them, which no text of the first kind has.
pub two_form : {A B : Type 0} {V : A → Type 0} {f : List ℕ → Option A} {s : A → List ℕ} {W : B → Type 0} {g : List ℕ
    → Option B} {u : B → List ℕ}
    → (sep : ℕ) → (sep == sep) ≡ true → ((x : A) → V x → Lacks sep (s x)) → IsForm V f s → IsForm W g u
    → IsForm (λ (p : A × B). V p.0 × W p.1) (two sep f g) (λ (p : A × B). s p.0 ++ sep ∷ u p.1)
unfolding two
two_form {A} {B} {V} {f} {s} {W} {g} {u} sep same lacks first second = record {
  spells = λ text p h.
      let a = bind_some (parted sep text) _ p h in
      let b = bind_some (f a.0.0) _ p a.2 in
      let c = bind_some (g a.0.1) _ p b.2 in
      let e : (b.0, c.0) ≡ p = cc (c.2) in
      let t = parted_spells sep text a.0 a.1 in
      let x = first.spells a.0.0 b.0 b.1 in
      let y = second.spells a.0.1 c.0 c.1 in
      subst (λ (z : A × B). (V z.0 × W z.1) × (text ≡ s z.0 ++ sep ∷ u z.1)) e
      ((x.0, y.0), t.0 ∙ ap (λ z. z ++ sep ∷ a.0.1) x.1 ∙ ap (λ z. s b.0 ++ sep ∷ z) y.1);
  again = λ p v. rw (
    parted_at sep (s p.0) (u p.1) (lacks p.0 v.0) same,
    first.again p.0 v.0,
    second.again p.1 v.1,
  ) refl;
}

-- ---- Keys

pub key_form : IsForm IsKey key_of key_text
key_form =
    let form = two_form 47 refl (λ n v. decimal_lacks 47 n refl v) number_form number_form in
    record {
      spells = λ text k h.
          let m = map_some key_from (two 47 number number text) k h in
          let d = form.spells text m.0 m.1 in
          subst (λ (z : ShardRef). IsKey z × (text ≡ key_text z)) m.2 d;
      again = λ k v. ap (option_map key_from) (form.again (k.stream, k.shard) v);
    }

pub key_lacks : (k : ShardRef) → IsKey k → Lacks 32 (key_text k)
key_lacks k v = lacks-append 32 (decimal k.stream) (47 ∷ decimal k.shard) (decimal_lacks 32 k.stream refl v.0) (
  refl,
  decimal_lacks 32 k.shard refl v.1,
)
