-- The lines of a turn are added at the end of the text of the journal's lines.
use Rattle.std.proofs.Common.{◌≡◌, List, [], ◌∷◌, ◌++◌, map, reverse, sym, ap, ◌∙◌}
use Rattle.std.proofs.lemmas.Grind.{flat_map-append}
use Rattle.std.proofs.lemmas.List.{append_assoc, append-nil, reverse-append}
use Rattle.kds_defs.specs.declared.command.Turn.{Turn}
use Rattle.kds_defs.specs.Histories.{clock, decision, journal, lines_of}
use Rattle.kds_defs.specs.Journal.{Journal, Line, with_lines}
use Rattle.kcl_journal.specs.declared.line.EntryLine.{EntryLine}
use Rattle.kcl_journal.specs.declared.line.TheConstants.{VERSION}
use Rattle.kcl_journal.specs.Entries.{entry_spelling}
use Rattle.kcl_sim_scribe.specs.Added.{added_entries, entries_text, history_entries, told_by}

behind : (lines : List Line) (log : Journal) → reverse (map told_by (with_lines lines log)) ≡ reverse (map told_by log)
    ++ map told_by lines
behind [] log = sym (append-nil (reverse (map told_by log)))
behind (line ∷ lines) log =
    behind lines (line ∷ log)
    ∙ ap (λ ls. ls ++ map told_by lines) (reverse-append (told_by line ∷ []) (map told_by log))
    ∙ append_assoc (reverse (map told_by log)) (told_by line ∷ []) (map told_by lines)

pub grows : (h : List Turn) (turn : Turn) → history_entries (turn ∷ h) ≡ history_entries h ++ added_entries h turn
grows h turn = behind (lines_of (decision (journal h) (clock (turn ∷ h)) turn)) (journal h)

pub text_grows : (xs ys : List EntryLine) → entries_text (xs ++ ys) ≡ entries_text xs ++ entries_text ys
text_grows xs ys = flat_map-append (λ (line : EntryLine). entry_spelling VERSION line ++ 10 ∷ []) xs ys
