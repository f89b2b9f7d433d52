-- The lines that a turn adds to a journal's text, and the text of a history's journal.
use Rattle.std.specs.Prelude.{ℕ, List, [], ◌∷◌, ◌++◌, flat_map, map, reverse}
use Rattle.kds_defs.specs.declared.command.Turn.{Turn}
use Rattle.kds_defs.specs.Histories.{clock, decision, journal, lines_of}
use Rattle.kds_defs.specs.Journal.{Line}
use Rattle.kcl_journal.specs.declared.line.EntryLine.{EntryLine}
use Rattle.kcl_journal.specs.declared.line.TheConstants.{VERSION}
use Rattle.kcl_journal.specs.Entries.{end_spelling, entry_spelling, heading}

-- The line as a journal's text shows it: without a put's key and payload.
abbrev pub told_by : (line : Line) → EntryLine
told_by line = record { clock = line.clock; by = line.by; what = line.what }

-- The lines that the turn adds to the text of the history's journal.
abbrev pub added_entries : (h : List Turn) (turn : Turn) → List EntryLine
added_entries h turn = map told_by (lines_of (decision (journal h) (clock (turn ∷ h)) turn))

-- The lines of the history's journal as its text shows them, oldest first.
abbrev pub history_entries : (h : List Turn) → List EntryLine
history_entries h = reverse (map told_by (journal h))

-- The lines as text, each ended by a line feed.
abbrev pub entries_text : (lines : List EntryLine) → List ℕ
entries_text lines = flat_map (λ line. entry_spelling VERSION line ++ 10 ∷ []) lines

-- The text of a history's journal: the heading, its lines, and a last line with the clock.
abbrev pub journal_text : (h : List Turn) → List ℕ
journal_text h = heading ++ 10 ∷ (entries_text (history_entries h) ++ (end_spelling (clock h) ++ 10 ∷ []))
