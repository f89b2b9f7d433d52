-- The first field of a text, which ends at the first colon.
use Rattle.std.specs.Prelude.{◌≡◌, ℕ, List, [], ◌∷◌, ◌==◌, false, if◌then◌else◌, Option, Some, None}
use Rattle.std.specs.Prelude.{option_map}

infixl 10 ◌>>=◌
-- What `f` gives for the option's value, or `None` without a value.
abbrev pub ◌>>=◌ : {A B : Type 0} → (found : Option A) (next : A → Option B) → Option B
(Some x) >>= f = f x
None >>= f = None

-- The text before the first colon and the text after it, or `None` without a colon.
abbrev pub field : (bs : List ℕ) → Option (List ℕ × List ℕ)
field [] = None
field (b ∷ bs) = if b == 58 then Some ([], bs) else option_map (λ p. (b ∷ p.0, p.1)) (field bs)

-- No byte of the text is a colon.
abbrev pub HasNoColon : (bs : List ℕ) → Type 0
HasNoColon [] = Unit {0}
HasNoColon (b ∷ bs) = ((b == 58) ≡ false) × HasNoColon bs
