-- A value with an origin after it makes a round trip.
use Rattle.std.proofs.Common.{◌≡◌, ℕ, ◌<◌, ◌^◌, List, ◌∷◌, ◌++◌, Bool, true, false, Option, Some, None, refl, sym, ap}
use Rattle.std.proofs.Common.{◌∙◌, codes, decimal, subst}
use Rattle.std.proofs.lemmas.List.{append-nil}
use Rattle.std.proofs.lemmas.Slice.Eq.{bytes_eq-Decides}
use Rattle.std.specs.Prelude.{if◌then◌else◌, option_map}
use Rattle.std.specs.Str.{bytes_eq}
use Rattle.kds_defs.specs.declared.command.Origin.{Origin}
use Rattle.kds_defs.specs.declared.command.Origin.TheVariants as origin
use Rattle.kds_base.specs.Moments.{moment_of}
use Rattle.kcl_script_fields.specs.Fields.{field, Lacks}
use Rattle.kcl_script_fields.specs.Origins.{IsOrigin, origin_of, origin_text, time_of, with_origin, with_origin_at}
use Rattle.kcl_script_fields.proofs.Parts.{parted_at, parted_none, parted_spells, bind_some, map_some}
use Rattle.kcl_script_fields.proofs.Forms.{IsForm, moment_form}

-- ---- The text of an origin

-- A valid origin, whose text is a space and `text`.
abbrev SpellsOrigin : List ℕ → Origin → Type 0
SpellsOrigin text beginning = IsOrigin beginning × (32 ∷ text ≡ origin_text beginning)

time_is : (c : Bool) (word rest : List ℕ) (beginning : Origin) → bytes_eq word (codes "time") ≡ c
    → (if c then option_map (λ m. origin.Time m) (moment_of rest) else None) ≡ Some beginning
    → SpellsOrigin (word ++ 32 ∷ rest) beginning
time_is false word rest beginning c h = absurd (cc)
time_is true word rest beginning c h =
    let m = map_some (λ n. origin.Time n) (moment_of rest) beginning h in
    let d = moment_form.spells rest m.0 m.1 in
    let spelled : SpellsOrigin (codes "time" ++ 32 ∷ rest) (origin.Time m.0) =
    (d.0, ap (λ z. codes " time " ++ z) d.1) in
    let at_word : SpellsOrigin (word ++ 32 ∷ rest) (origin.Time m.0) =
    subst (λ (z : List ℕ). SpellsOrigin (z ++ 32 ∷ rest) (origin.Time m.0))
    (sym ((bytes_eq-Decides word (codes "time")).0 c)) spelled in
    subst (λ (z : Origin). SpellsOrigin (word ++ 32 ∷ rest) z) m.2 at_word

time_spells : (text : List ℕ) (beginning : Origin) → time_of text ≡ Some beginning → SpellsOrigin text beginning
time_spells text beginning h =
    let p = bind_some (field text) _ beginning h in
    subst (λ (z : List ℕ). SpellsOrigin z beginning) (sym (parted_spells 32 text p.0 p.1).0)
    (time_is (bytes_eq p.0.0 (codes "time")) p.0.0 p.0.1 beginning refl p.2)

origin_is : (c : Bool) (text : List ℕ) (beginning : Origin) → bytes_eq text (codes "latest") ≡ c
    → (if c then Some origin.Latest else time_of text) ≡ Some beginning → SpellsOrigin text beginning
origin_is true text beginning c h =
    let same : origin.Latest ≡ beginning = cc in
    subst (λ (z : Origin). SpellsOrigin text z) same (
      tt,
      ap (λ z. 32 ∷ z) ((bytes_eq-Decides text (codes "latest")).0 c),
    )
origin_is false text beginning c h = time_spells text beginning h

-- ---- A value and its origin

with_is : {A : Type 0} {V : A → Type 0} {f : List ℕ → Option A} {s : A → List ℕ} → IsForm V f s
    → (text : List ℕ) (o : Option (List ℕ × List ℕ)) (a : A × Origin)
    → field text ≡ o → with_origin_at f text o ≡ Some a → (V a.0 × IsOrigin a.1) × (text ≡ s a.0 ++ origin_text a.1)
with_is {A} {V} {f} {s} form text None a e h =
    let m = map_some (λ k. (k, origin.TrimHorizon)) (f text) a h in
    let d = form.spells text m.0 m.1 in
    subst (λ (z : A × Origin). (V z.0 × IsOrigin z.1) × (text ≡ s z.0 ++ origin_text z.1)) m.2 (
      (d.0, tt),
      d.1 ∙ sym (append-nil (s m.0)),
    )
with_is {A} {V} {f} {s} form text (Some p) a e h =
    let k = bind_some (f p.0) _ a h in
    let m = map_some (λ o. (k.0, o)) (origin_of p.1) a k.2 in
    let d = form.spells p.0 k.0 k.1 in
    let o = origin_is (bytes_eq p.1 (codes "latest")) p.1 m.0 refl m.1 in
    subst (λ (z : A × Origin). (V z.0 × IsOrigin z.1) × (text ≡ s z.0 ++ origin_text z.1)) m.2
    ((d.0, o.0), (parted_spells 32 text p e).0 ∙ ap (λ z. z ++ 32 ∷ p.1) d.1 ∙ ap (λ z. s k.0 ++ z) o.1)

with_again : {A : Type 0} {V : A → Type 0} {f : List ℕ → Option A} {s : A → List ℕ} → ((x : A) → V x → Lacks 32 (s x))
    → IsForm V f s → (x : A) (beginning : Origin) (text : List ℕ)
    → V x → origin_of text ≡ Some beginning → with_origin f (s x ++ 32 ∷ text) ≡ Some (x, beginning)
with_again {A} {V} {f} {s} lacks form x beginning text v e =
    rw (parted_at 32 (s x) text (lacks x v) refl, form.again x v, e) refl

time_again : (moment : ℕ) → moment < 2 ^ 62 → origin_of (codes "time " ++ decimal moment) ≡ Some (origin.Time moment)
time_again moment small = ap (option_map (λ m. origin.Time m)) (moment_form.again moment small)

all_again : {A : Type 0} {V : A → Type 0} {f : List ℕ → Option A} {s : A → List ℕ} → ((x : A) → V x → Lacks 32 (s x))
    → IsForm V f s → (a : A × Origin)
    → V a.0 × IsOrigin a.1 → with_origin f (s a.0 ++ origin_text a.1) ≡ Some a
all_again {A} {V} {f} {s} lacks form (x, origin.TrimHorizon) v =
    rw (append-nil (s x), parted_none 32 (s x) (lacks x v.0), form.again x v.0) refl
all_again lacks form (x, origin.Latest) v = with_again lacks form x origin.Latest (codes "latest") v.0 refl
all_again lacks form (x, origin.Time moment) v =
    with_again lacks form x (origin.Time moment) (codes "time " ++ decimal moment) v.0 (time_again moment v.1)

-- A round trip, if the texts of the values have no space.
pub with_origin_form : {A : Type 0} {V : A → Type 0} {f : List ℕ → Option A} {s : A → List ℕ}
    → ((x : A) → V x → Lacks 32 (s x)) → IsForm V f s
    → IsForm (λ (a : A × Origin). V a.0 × IsOrigin a.1) (with_origin f) (λ (a : A × Origin). s a.0 ++ origin_text a.1)
with_origin_form lacks form =
    record { spells = λ text a h. with_is form text (field text) a refl h; again = λ a v. all_again lacks form a v }
