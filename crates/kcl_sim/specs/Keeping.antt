-- What a run writes: the answers to its lines, or a text gathered from its turns.
use Rattle.std.specs.Prelude.{◌≡◌, ℕ, List, [], ◌++◌, Bool, true, false}

-- The text if answers are wanted, else nothing.
abbrev pub if_wanted : (is_wanted : Bool) (text : List ℕ) → List ℕ
if_wanted true text = text
if_wanted false text = []

-- What the text gained since `cleared_at` was added to the output.
abbrev pub AddsText : (cleared_at now old new : List ℕ) → Type 0
AddsText cleared_at now old new = (added : List ℕ) × (now ≡ cleared_at ++ added) × (new ≡ old ++ added)
