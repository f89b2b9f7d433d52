-- The text of a journal, and the text that an audit writes.
use Rattle.std.specs.Prelude.{ℕ, ◌≤◌, ◌<◌, ◌^◌, ◌≡◌, List, [], ◌∷◌, ◌++◌, map, reverse, flat_map, codes, decimal}
use Rattle.std.specs.Prelude.{if◌then◌else◌}
use Rattle.std.specs.List.{AllByRecursion}
use Rattle.kds_defs.specs.Journal.{Journal}
use Rattle.kds_defs.specs.Legal.{IsLegal, last_clock}
use Rattle.kcl_script_fields.specs.Answers.{refusal_name}
use Rattle.kcl_journal.specs.declared.line.EntryLine.{EntryLine}
use Rattle.kcl_journal.specs.Entries.{IsVersion, end_spelling, entry_spelling, heading}
use Rattle.kcl_journal.specs.Ranges.{IsEntryLine, is_first}
use Rattle.kcl_audit_streams.specs.declared.rule.Rule.{Rule}
use Rattle.kcl_audit_streams.specs.declared.rule.Rule.TheVariants as rule
use Rattle.kcl_audit.specs.Progress.{AuditEnd, sound, unsound, over, Progress, found, line_of, next}

-- The journal of these entries, given oldest first.
abbrev pub journal_of : (es : List EntryLine) → Journal
journal_of es = reverse (map line_of es)

-- The text with a line feed at its end.
abbrev pub with_feed : (text : List ℕ) → List ℕ
with_feed text = text ++ 10 ∷ []

-- The heading of a text in this version, with its line feed; the first version has none.
abbrev pub heading_text : (version : ℕ) → List ℕ
heading_text version = if is_first version then [] else with_feed heading

-- The text of a journal: the heading, a line for each entry, and a last line with the clock `end`.
abbrev pub entries_text : (version : ℕ) (es : List EntryLine) (end : ℕ) → List ℕ
entries_text version es end =
    heading_text version ++ (flat_map (λ e. with_feed (entry_spelling version e)) es ++ with_feed (end_spelling end))

-- The count after these entries, from `n` on, at most 2^64 - 1.
abbrev pub counted : (n : ℕ) (es : List EntryLine) → ℕ
counted n [] = n
counted n (e ∷ es) = counted (next n) es

-- The bytes are the text of a legal journal of `count` entries, with a last clock not below its newest.
pub record IsJournal (bytes : List ℕ) (count : ℕ) : Type 0 where
  pub version : ℕ
  pub entries : List EntryLine
  pub end : ℕ
  pub is_version : IsVersion version
  pub in_time : end < 2 ^ 62
  pub lines : AllByRecursion (IsEntryLine version) entries
  pub legal : IsLegal (journal_of entries)
  pub order : last_clock (journal_of entries) ≤ end
  pub text : bytes ≡ entries_text version entries end
  pub many : count ≡ counted 0 entries

-- ---- What an audit writes

-- The name of a rule as an audit writes it; for a refused command, the refusal's name.
abbrev pub rule_name : (rule : Rule) → List ℕ
rule_name rule.Form = codes "Form"
rule_name rule.Clock = codes "Clock"
rule_name rule.Entry = codes "Entry"
rule_name (rule.By r) = refusal_name r

-- The report line on the bad entry `n`, which breaks the rule with this name.
abbrev pub named_text : (n : ℕ) (name : List ℕ) → List ℕ
named_text n name = codes "entry " ++ (decimal n ++ 32 ∷ with_feed name)

-- The report line on the bad entry `n`, which breaks this rule.
abbrev pub entry_text : (n : ℕ) (r : Rule) → List ℕ
entry_text n r = named_text n (rule_name r)

-- The report line that all `n` entries are good.
abbrev pub sound_text : (n : ℕ) → List ℕ
sound_text n = codes "sound " ++ with_feed (decimal n)

-- The whole text that an audit with this result writes; nothing if a line or the input is too long.
abbrev pub audit_text : (over : AuditEnd) → List ℕ
audit_text (sound n) = sound_text n
audit_text (unsound n r) = entry_text n r
audit_text over = []

-- What an audit with this progress has written: the report on the first bad entry, or nothing.
abbrev pub report : (progress : Progress) → List ℕ
report (found n r) = entry_text n r
report _ = []
