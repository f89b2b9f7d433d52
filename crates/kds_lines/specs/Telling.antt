-- How the reading of an input ends, by the bytes that the source tells.
use Rattle.std.specs.Prelude.{◌≡◌, ◌⊎◌, ℕ, ◌+◌, List, [], ◌∷◌, ◌++◌, length, Some}
use Rattle.std.specs.declared.option.Option.{Option}
use Rattle.std.specs.Io.KnownBytes.{Appends}
use Rattle.kds_lines.specs.Lines.{whole, unfinished, too_long, lined}
use Rattle.kds_lines.specs.declared.outcome.Outcome.{Outcome}
use Rattle.kds_lines.specs.declared.outcome.Outcome.TheVariants.{Whole, Unfinished, Stopped, TooLong, Read, Write}
use Rattle.kds_lines.specs.declared.outcome.Outcome.TheVariants.{Memory}

-- Why the reading ended after `texts` and before `rest`; the numbers count lines, Write and Memory tell nothing.
abbrev pub Because : (outcome : Outcome) (refuses : List (List ℕ) → List ℕ → Type 0) (bytes : List ℕ)
    (left : Option (List ℕ)) (texts rest : List (List ℕ)) → Type 0
Because Whole refuses bytes left texts rest = ((lined bytes).end ≡ whole) × (rest ≡ [])
Because (Unfinished n) refuses bytes left texts rest = ((lined bytes).end ≡ unfinished) × (rest ≡ [])
    × (n ≡ length texts + 1)
Because TooLong refuses bytes left texts rest = ((lined bytes).end ≡ too_long) × (rest ≡ [])
Because (Stopped n) refuses bytes left texts rest =
    (text : List ℕ) × (later : List (List ℕ)) × (rest ≡ text ∷ later) × refuses texts text × (n ≡ length texts + 1)
Because Read refuses bytes left texts rest =
    (fed : List ℕ) × (unread : List ℕ) × (bytes ≡ fed ++ unread) × (left ≡ Some unread) × (texts ≡ (lined fed).texts)
Because Write refuses bytes left texts rest = Unit {0}
Because Memory refuses bytes left texts rest = Unit {0}

-- Output is unwritten only if the sink failed or memory ran out.
abbrev pub Unwritten : (outcome : Outcome) (back : List ℕ) → Type 0
Unwritten Write back = Unit {0}
Unwritten Memory back = Unit {0}
Unwritten _ back = back ≡ []

-- These lines were taken; with Memory, maybe a part of the next line too.
abbrev pub HasTaken : (outcome : Outcome) (took : List (List ℕ) → Type 0) (broke : List (List ℕ) → List ℕ → Type 0)
    (texts rest : List (List ℕ)) → Type 0
HasTaken Memory took broke texts rest =
    took texts ⊎ ((text : List ℕ) × (later : List (List ℕ)) × (rest ≡ text ∷ later) × broke texts text)
HasTaken _ took broke texts rest = took texts

-- The reading of `bytes` ended with `outcome`; output is missing only if the sink failed or memory ran out.
pub record Told (outcome : Outcome) (took : List (List ℕ) → Type 0) (broke refuses : List (List ℕ) → List ℕ → Type 0)
    (output : List (List ℕ) → List ℕ) (bytes : List ℕ) (left old new : Option (List ℕ)) : Type 0 where
  pub texts : List (List ℕ)
  pub rest : List (List ℕ)
  pub parts : (lined bytes).texts ≡ texts ++ rest
  pub taken : HasTaken outcome took broke texts rest
  pub because : Because outcome refuses bytes left texts rest
  pub front : List ℕ
  pub back : List ℕ
  pub output_is : output texts ≡ front ++ back
  pub written : Appends old new front
  pub unwritten : Unwritten outcome back
