-- A text is added part by part, perhaps not to its end.
use Rattle.std.proofs.Common.{◌≡◌, ℕ, List, ◌++◌, sym, ◌∙◌, ap, append_assoc}
use Rattle.kcl_script_fields.specs.Fields.{AddsFront}

pub adds_first : (old now text more : List ℕ) → AddsFront old now text → AddsFront old now (text ++ more)
adds_first old now text more a =
    record {
      front = a.front;
      back = a.back ++ more;
      parts = ap (λ (t : List ℕ). t ++ more) a.parts ∙ append_assoc a.front a.back more;
      added = a.added;
    }

pub adds_later : (old mid now text more : List ℕ) → mid ≡ old ++ text → AddsFront mid now more
    → AddsFront old now (text ++ more)
adds_later old mid now text more e a = record {
  front = text ++ a.front;
  back = a.back;
  parts = ap (λ (t : List ℕ). text ++ t) a.parts ∙ sym (append_assoc text a.front a.back);
  added = a.added ∙ ap (λ (t : List ℕ). t ++ a.front) e ∙ append_assoc old text a.front;
}
