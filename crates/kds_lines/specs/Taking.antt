-- What it means that a taker takes a line, or that memory runs out in it.
use Rattle.std.specs.Prelude.{◌≡◌, ◌⊎◌, ℕ, List, [], ◌∷◌, ◌++◌}

-- The taker took the line `text` and added its output.
pub record Goes (took : List (List ℕ) → Type 0) (output : List (List ℕ) → List ℕ) (lines : List (List ℕ))
    (text old new : List ℕ) : Type 0 where
  pub taken : took (lines ++ text ∷ [])
  pub added : List ℕ
  pub grows : output (lines ++ text ∷ []) ≡ output lines ++ added
  pub wrote : new ≡ old ++ added

-- The bytes `whole` begin with `front`.
abbrev pub GoesOn : (front whole : List ℕ) → Type 0
GoesOn front whole = (back : List ℕ) × (whole ≡ front ++ back)

-- Memory ran out at the line `text`: it was not taken, taken whole, or taken in part (`broke`).
abbrev pub Breaks : (took : List (List ℕ) → Type 0) (broke : List (List ℕ) → List ℕ → Type 0)
    (output : List (List ℕ) → List ℕ) (lines : List (List ℕ)) (text : List ℕ) → Type 0
Breaks took broke output lines text =
    took lines ⊎ ((took (lines ++ text ∷ []) × GoesOn (output lines) (output (lines ++ text ∷ []))) ⊎ broke lines text)
