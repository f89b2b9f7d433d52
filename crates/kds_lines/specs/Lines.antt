-- The whole lines of an input within the limits, each with its line feed, and how its bytes end.
use Rattle.std.specs.Prelude.{ℕ, ◌+◌, ◌<◌, ◌==◌, ◌||◌, ◌≡◌, List, [], ◌∷◌, ◌++◌, length, take, drop, Bool, false}
use Rattle.std.specs.Prelude.{nat_lt, if◌then◌else◌}
use Rattle.std.specs.List.{slice_split}
use Rattle.kds_defs.specs.declared.limits.TheConstants.{LINE_BYTES, INPUT_BYTES}

-- How bytes end: after a line feed or empty, inside a line, or with a line or an input that is too long.
pub data End : Type 0 where
  whole unfinished too_long : End

-- The whole lines of an input within the limits, without line feeds, and how the bytes end after them.
pub record Lined : Type 0 where
  pub texts : List (List ℕ)
  pub end : End

-- Whether the byte is a line feed.
abbrev pub is_feed : (b : ℕ) → Bool
is_feed b = b == 10

-- The parts of `bytes` between line feeds; the last, perhaps empty, comes after the last line feed.
abbrev pub pieces : (bytes : List ℕ) → List (List ℕ)
pieces bytes = slice_split is_feed bytes

-- Whether a line of `len` bytes without its line feed, or an input of `total` bytes, is too long.
abbrev pub is_too_long : (len total : ℕ) → Bool
is_too_long len total = nat_lt LINE_BYTES len || nat_lt INPUT_BYTES total

-- No lines, and the end `e`.
abbrev pub ended : (e : End) → Lined
ended e = record { texts = []; end = e }

-- The lines of `l` with `text` before them.
abbrev pub preceded : (text : List ℕ) (l : Lined) → Lined
preceded text l = record { texts = text ∷ l.texts; end = l.end }

-- No lines, and how an input ends with the part `bs` after its last line feed; `used` bytes come before.
abbrev pub last_of : (used : ℕ) (bs : List ℕ) → Lined
last_of used [] = ended whole
last_of used (b ∷ bs) = ended (if is_too_long (length (b ∷ bs)) (used + length (b ∷ bs)) then too_long else unfinished)

-- The whole lines and the end of an input from its parts; `used` bytes come before.
abbrev pub lined_from : (used : ℕ) (more : List (List ℕ)) → Lined
lined_from used [] = ended whole
lined_from used (piece ∷ []) = last_of used piece
lined_from used (piece ∷ next ∷ more) =
    if is_too_long (length piece) (used + length piece + 1) then ended too_long
    else preceded piece (lined_from (used + length piece + 1) (next ∷ more))

-- The whole lines of `bytes`, up to the first at which the line or the input is too long, and the end.
abbrev pub lined : (bytes : List ℕ) → Lined
lined bytes = lined_from 0 (pieces bytes)

-- ---- The first line feed

-- No byte is a line feed.
abbrev pub NoFeed : (bs : List ℕ) → Type 0
NoFeed [] = Unit {0}
NoFeed (b ∷ bs) = (is_feed b ≡ false) × NoFeed bs

-- The first line feed of `bytes` is at the index `index`.
pub record HasFeedAt (bytes : List ℕ) (index : ℕ) : Type 0 where
  pub within : index < length bytes
  pub before : NoFeed (take index bytes)
  pub parts : bytes ≡ take index bytes ++ 10 ∷ drop (index + 1) bytes

-- ---- An input whose bytes come one after another

-- The lines of `l` with `ts` before them.
abbrev pub preceded_by : (ts : List (List ℕ)) (l : Lined) → Lined
preceded_by ts l = record { texts = ts ++ l.texts; end = l.end }

-- Whatever follows `bytes`, its whole lines are `texts`, of `used` bytes, and `held` begins the next line.
pub record Fed (bytes : List ℕ) (texts : List (List ℕ)) (used : ℕ) (held : List ℕ) : Type 0 where
  pub goes_on : (more : List ℕ) → lined (bytes ++ more) ≡ preceded_by texts (lined_from used (pieces (held ++ more)))
  pub no_feed : NoFeed held

-- Whatever follows `bytes`, the first whole lines within the limits are `texts`.
abbrev pub Begins : (bytes : List ℕ) (texts : List (List ℕ)) → Type 0
Begins bytes texts = (more : List ℕ) → (rest : List (List ℕ)) × ((lined (bytes ++ more)).texts ≡ texts ++ rest)

-- Whatever follows `bytes`, the lines are `texts`, and the next line or the input is too long.
abbrev pub IsTooLong : (bytes : List ℕ) (texts : List (List ℕ)) → Type 0
IsTooLong bytes texts = (more : List ℕ) → lined (bytes ++ more) ≡ record { texts = texts; end = too_long }
