-- Which part of an output was written, which waits, and which is missing.
use Rattle.std.specs.Prelude.{◌≡◌, ℕ, List, [], ◌++◌}
use Rattle.std.specs.declared.option.Option.{Option}
use Rattle.std.specs.Io.KnownBytes.{Appends}

-- Of `output`, a first part was written to the sink, `waits` comes next, and then `missing`.
pub record Wrote (start now : Option (List ℕ)) (output waits missing : List ℕ) : Type 0 where
  pub front : List ℕ
  pub parts : output ≡ front ++ (waits ++ missing)
  pub written : Appends start now front

-- A first part of `output` was written, and the rest is lost.
abbrev pub Loses : (start now : Option (List ℕ)) (output : List ℕ) → Type 0
Loses start now output = (missing : List ℕ) × Wrote start now output [] missing

-- ---- A write, which takes the sink's bytes from `held` to `now`

-- Whatever was written before, a first part of `waited` was written, and `waits` still waits.
abbrev pub WritesOn : (held now : Option (List ℕ)) (waited waits : List ℕ) → Type 0
WritesOn held now waited waits =
    (start : Option (List ℕ)) (whole missing : List ℕ) → Wrote start held whole waited missing
    → Wrote start now whole waits missing

-- Whatever was written before, a first part of `waited` was written, and the rest is lost.
abbrev pub LosesRest : (held now : Option (List ℕ)) (waited : List ℕ) → Type 0
LosesRest held now waited = (start : Option (List ℕ)) (whole missing : List ℕ) → Wrote start held whole waited missing
    → Loses start now whole
