-- The lines that a command for one existing stream may add to a journal.
use Rattle.std.specs.Prelude.{ℕ, ◌≡◌, Bool, true, false, List, Some}
use Rattle.std.specs.List.{AllByRecursion}
use Rattle.kds_defs.specs.declared.entry.Entry.{Entry}
use Rattle.kds_defs.specs.declared.entry.Entry.TheVariants as entry
use Rattle.kds_defs.specs.Journal.{Line}
use Rattle.kds_defs.specs.Subjects.{stream_of}

-- Whether an entry neither makes nor deletes a stream.
abbrev pub is_within_life : (entry : Entry) → Bool
is_within_life (entry.Made s name count) = false
is_within_life (entry.Gone s) = false
is_within_life _ = true

-- The line is about stream `s`, neither makes nor deletes a stream, and is written at the clock `c`.
abbrev pub IsLineOf : (s c : ℕ) (line : Line) → Type 0
IsLineOf s c line = (stream_of line.what ≡ Some s) × (line.clock ≡ c) × (is_within_life line.what ≡ true)

-- All lines are about stream `s`, neither make nor delete a stream, and are written at the clock `c`.
abbrev pub AreOf : (s c : ℕ) (lines : List Line) → Type 0
AreOf s c lines = AllByRecursion (IsLineOf s c) lines
