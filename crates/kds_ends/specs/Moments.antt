-- The moments that a clock gives: a list's, one after another, and then the last one again and again.
use Rattle.std.specs.Prelude.{◌≡◌, ℕ, zero, suc, List, [], ◌∷◌, length, Some, None}
use Rattle.std.specs.declared.option.Option.{Option}

-- The moment that a clock gives next, or 0 if it has none.
abbrev pub current : (ms : List ℕ) → ℕ
current [] = 0
current (m ∷ ms) = m

-- The moments after one was given; the last one stays.
abbrev pub later : (ms : List ℕ) → List ℕ
later [] = []
later (m ∷ []) = m ∷ []
later (m ∷ next ∷ ms) = next ∷ ms

-- The moments that the next `count` calls of a clock give, in order.
abbrev pub moments_of : (count : ℕ) (reported : List ℕ) → List ℕ
moments_of zero reported = []
moments_of (suc count) reported = current reported ∷ moments_of count (later reported)

-- The moments that a clock has after `count` calls.
abbrev pub moments_after : (count : ℕ) (reported : List ℕ) → List ℕ
moments_after zero reported = reported
moments_after (suc count) reported = moments_after count (later reported)

-- A clock gave these moments in order and then exposes the rest; true of a clock that exposes none (`None`).
abbrev pub Gives : (reported : Option (List ℕ)) (numbers : List ℕ) (new : Option (List ℕ)) → Type 0
Gives None numbers new = Unit {0}
Gives (Some reported) numbers new = (numbers ≡ moments_of (length numbers) reported)
    × (new ≡ Some (moments_after (length numbers) reported))
