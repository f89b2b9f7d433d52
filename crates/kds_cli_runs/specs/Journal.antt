-- What a replay writes that writes the schedule's journal instead of answers.
use Rattle.std.specs.Prelude.{◌≡◌, ◌≢◌, ℕ, List, [], ◌∷◌, ◌++◌, Bool, true, false, Some}
use Rattle.std.specs.declared.option.Option.{Option}
use Rattle.std.specs.Io.KnownBytes.{Appends}
use Rattle.kds_ends.specs.declared.status.Status.{Status}
use Rattle.kds_ends.specs.declared.status.Status.TheVariants.{Done, BadLine, Read, Write, Memory, TooLong}
use Rattle.kds_ends.specs.Causes.{AppendsPart}
use Rattle.kcl_audit.specs.Progress.{audit_of, over, sound}
use Rattle.kcl_audit.specs.Text.{counted}
use Rattle.kcl_journal.specs.Entries.{end_spelling, heading}
use Rattle.kcl_script.specs.declared.line.Line.{Line}
use Rattle.kcl_sim_scribe.specs.Added.{history_entries, journal_text}
use Rattle.kcl_sim.specs.Output.{fresh, with_schedule}
use Rattle.kds_cli_runs.specs.Entries.{lines_journal}
use Rattle.kcl_sim.specs.Schedule.{whole, too_long, bad_line, ending, history, judged}

-- The text of the entries that the schedule's lines make.
abbrev pub entries : (bytes : List ℕ) → List ℕ
entries bytes = lines_journal (judged bytes).lines

-- The journal's first line, with line feed.
abbrev pub first_line : List ℕ
first_line = heading ++ 10 ∷ []

-- The journal's last line, with line feed.
abbrev pub last_line : (clock : ℕ) → List ℕ
last_line clock = end_spelling clock ++ 10 ∷ []

-- The output for the lines run: the whole journal with Done, Write and Memory, else without its last line.
abbrev pub recorded : (status : Status) (lines : List Line) → List ℕ
recorded Done lines = journal_text (with_schedule fresh lines).history
recorded Write lines = journal_text (with_schedule fresh lines).history
recorded Memory lines = journal_text (with_schedule fresh lines).history
recorded _ lines = first_line ++ lines_journal lines

-- By status: Done wrote the journal; BadLine, TooLong, Read all but its last line; Write, Memory a proper prefix.
abbrev pub JournalTells : (status : Status) (bytes : List ℕ) (left held now : Option (List ℕ)) → Type 0
JournalTells Done bytes left held now = (ending bytes ≡ whole) × Appends held now (journal_text (history bytes))
JournalTells (BadLine n) bytes left held now =
    (ending bytes ≡ bad_line n) × Appends held now (first_line ++ entries bytes)
JournalTells TooLong bytes left held now = (ending bytes ≡ too_long) × Appends held now (first_line ++ entries bytes)
JournalTells Read bytes left held now = (fed : List ℕ) × (rest : List ℕ) × (bytes ≡ fed ++ rest) × (left ≡ Some rest)
    × Appends held now (first_line ++ entries fed)
JournalTells Write bytes left held now = AppendsPart held now (journal_text (history bytes))
JournalTells Memory bytes left held now = AppendsPart held now (journal_text (history bytes))
JournalTells _ bytes left held now = ⊥

-- An audit finds the schedule's journal sound, with all entries, unless something is too long for it.
abbrev pub IsAuditedSound : (bytes : List ℕ) → Type 0
IsAuditedSound bytes =
    audit_of (journal_text (history bytes)) ≢ over
    → audit_of (journal_text (history bytes)) ≡ sound (counted 0 (history_entries (history bytes)))

-- The last line was written whole with Done, in part with Write, and not at all with Memory.
abbrev pub EndTells : (status : Status) (clock : ℕ) (held now : Option (List ℕ)) → Type 0
EndTells Done clock held now = Appends held now (last_line clock)
EndTells Write clock held now = AppendsPart held now (last_line clock)
EndTells Memory clock held now = Appends held now []
EndTells _ clock held now = ⊥

-- Whether the whole schedule was read and run.
abbrev pub is_done : (status : Status) → Bool
is_done Done = true
is_done _ = false
