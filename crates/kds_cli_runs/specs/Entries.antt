-- The text of the journal entries of a history, or of a schedule's lines.
use Rattle.std.specs.Prelude.{◌≡◌, ℕ, List, ◌++◌, Option, Some, None}
use Rattle.kds_defs.specs.declared.command.Turn.{Turn}
use Rattle.kcl_sim_scribe.specs.Added.{entries_text, history_entries}
use Rattle.kcl_sim_scribe.specs.Known.{ScribeValue, StandsFor}
use Rattle.kcl_script.specs.declared.line.Line.{Line}
use Rattle.kcl_sim.specs.Output.{fresh, with_schedule}

-- The text of all journal entries of the history.
abbrev pub entries_text_of : (h : List Turn) → List ℕ
entries_text_of h = entries_text (history_entries h)

-- The text of the entries that a schedule's first lines make.
abbrev pub lines_journal : (lines : List Line) → List ℕ
lines_journal lines = entries_text_of (with_schedule fresh lines).history

-- The scribe noted a history, and the text has its entries since `cleared_at`; None once memory ran out.
abbrev pub IsNoted : (scribe : ScribeValue) (text : Option (List ℕ)) (cleared_at h : List Turn) → Type 0
IsNoted scribe None cleared_at h = Unit {0}
IsNoted scribe (Some text) cleared_at h = StandsFor scribe h × (entries_text_of h ≡ entries_text_of cleared_at ++ text)
