-- The result for all bytes, from the progress along the lines that were taken.
use Rattle.std.proofs.Common.{◌≡◌, ℕ, Bool, true, false, List, [], ◌∷◌, ◌++◌, refl, sym, ap, ◌∙◌}
use Rattle.std.proofs.lemmas.List.{append-nil}
use Rattle.kds_base.proofs.Facts.{apart}
use Rattle.kds_lines.specs.Lines.{End, lined}
use Rattle.kcl_audit_streams.specs.declared.rule.Rule.{Rule}
use Rattle.kcl_audit_streams.specs.declared.rule.Rule.TheVariants as rule
use Rattle.kcl_audit.specs.Progress.{AuditEnd, Progress, audit_of, closed, finish, found, fresh, going, next, progress}
use Rattle.kcl_audit.specs.Progress.{progress_from, sound, step}
use Rattle.kcl_audit.specs.Progress.{unsound}
use Rattle.kcl_audit.specs.Text.{report}
use Rattle.kcl_audit.specs.Stages.{end_by, is_bad, is_sound}

-- ---- A bad entry

stays : (n : ℕ) (r : Rule) (texts : List (List ℕ)) → progress_from (found n r) texts ≡ found n r
stays n r [] = refl
stays n r (text ∷ texts) = stays n r texts

pub appended : (p : Progress) (texts rest : List (List ℕ))
    → progress_from p (texts ++ rest) ≡ progress_from (progress_from p texts) rest
appended p [] rest = refl
appended p (text ∷ texts) rest = appended (step p text) texts rest

pub bad_is : (p : Progress) → is_bad p ≡ true → (n : ℕ) × (r : Rule) × (p ≡ found n r)
bad_is (found n r) h = (n, r, refl)
bad_is _ h = absurd cc

pub is_bad_found : (p : Progress) → ((n : ℕ) × ((r : Rule) × (p ≡ found n r))) → false ≡ is_bad p → ⊥
is_bad_found p h g = apart (is_bad p) (ap is_bad h.1.1) (sym g)

pub unreported : (p : Progress) → is_bad p ≡ false → report p ≡ []
unreported (found n r) h = absurd cc
unreported _ h = refl

-- A bad entry among the first lines is the result for all bytes.
pub found_in : (bytes : List ℕ) (texts rest : List (List ℕ)) (n : ℕ) (r : Rule) → (lined bytes).texts ≡ texts ++ rest
    → progress texts ≡ found n r
    → audit_of bytes ≡ unsound n r
found_in bytes texts rest n r parts is =
    ap (λ p. finish p (lined bytes).end)
    (ap (progress_from fresh) parts ∙ appended fresh texts rest ∙ ap (λ p. progress_from p rest) is ∙ stays n r rest)

-- ---- The result at the end of the lines

pub ended : (bytes : List ℕ) (texts rest : List (List ℕ)) (end : End) → (lined bytes).texts ≡ texts ++ rest → rest ≡ []
    → (lined bytes).end ≡ end
    → audit_of bytes ≡ finish (progress texts) end
ended bytes texts rest end parts none is =
    ap (λ ts. finish (progress ts) (lined bytes).end) (parts ∙ ap (λ r. texts ++ r) none ∙ append-nil texts)
    ∙ ap (finish (progress texts)) is

pub sound_is : (end : AuditEnd) → is_sound end ≡ true → (n : ℕ) × (end ≡ sound n)
sound_is (sound n) h = (n, refl)
sound_is _ h = absurd cc

-- At the end of an input that isn't too long, a result that isn't sound is a bad entry.
pub unsound_is : (p : Progress) (b : Bool) → is_sound (finish p (end_by b)) ≡ false → (n : ℕ) × (r : Rule)
    × (finish p (end_by b) ≡ unsound n r)
unsound_is fresh true h = (next 0, rule.Form, refl)
unsound_is fresh false h = (next 0, rule.Form, refl)
unsound_is (going version log count) true h = (next count, rule.Form, refl)
unsound_is (going version log count) false h = (next count, rule.Form, refl)
unsound_is (closed count) true h = (next (next count), rule.Form, refl)
unsound_is (closed count) false h = absurd cc
unsound_is (found n r) b h = (n, r, refl)
