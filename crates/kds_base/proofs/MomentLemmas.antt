-- Each moment has exactly one text.
use Rattle.std.proofs.Common.{◌≡◌, ℕ, ◌<◌, ◌^◌, List, Option, Some, None, refl, ap, ◌∙◌, arith, decimal, inl, inr}
use Rattle.std.proofs.lemmas.Grind.{common_steps}
use Rattle.std.proofs.lemmas.Bool.{cases_Bool}
use Rattle.std.specs.Prelude.{nat_lt, option_and_then}
use Rattle.kds_base.specs.Moments.{in_time, moment_of}
use Rattle.kds_base.specs.NumberText.{number_of}
use Rattle.kds_base.proofs.NumberLemmas.{decimal_of_number, number_of_decimal}

in_time_is : (n m : ℕ) → in_time n ≡ Some m → (n ≡ m) × (m < 2 ^ 62)
in_time_is n m h = elim (cases_Bool (nat_lt n (2 ^ 62))) [
  | inl small ↦ let e : Some n ≡ Some m = rw small at h in let same : n ≡ m = cc in (same, grind (arith, common_steps))
  | inr big ↦ let e : None ≡ Some m = rw big at h in absurd (cc)
]

moment_of_text : (o : Option ℕ) (text : List ℕ) (moment : ℕ) → number_of 64 text ≡ o
    → option_and_then in_time o ≡ Some moment
    → (text ≡ decimal moment) × (moment < 2 ^ 62)
moment_of_text None text moment e h = absurd (cc)
moment_of_text (Some n) text moment e h =
    let t = in_time_is n moment h in
    let d = decimal_of_number text n e in
    (d.0 ∙ ap decimal t.0, t.1)

-- A moment's text is its one spelling.
pub moment_spells : (text : List ℕ) (moment : ℕ) → moment_of text ≡ Some moment → (text ≡ decimal moment)
    × (moment < 2 ^ 62)
moment_spells text moment h = moment_of_text (number_of 64 text) text moment refl h

in_time_again : (moment : ℕ) → moment < 2 ^ 62 → in_time moment ≡ Some moment
in_time_again moment small = grind (arith, common_steps)

-- A round trip from moment to text.
pub moment_again : (moment : ℕ) → moment < 2 ^ 62 → moment_of (decimal moment) ≡ Some moment
moment_again moment small = ap (option_and_then in_time) (number_of_decimal moment (omega arith))
    ∙ in_time_again moment small
