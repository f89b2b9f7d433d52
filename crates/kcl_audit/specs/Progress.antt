-- An audit goes over a journal's text line by line: its progress after each, and its result.
use Rattle.std.specs.Prelude.{ℕ, ◌+◌, ◌-◌, ◌^◌, min, if◌then◌else◌, List, [], ◌∷◌, Option, Some, None, Ok, Err}
use Rattle.std.specs.Str.{bytes_eq}
use Rattle.kcl_laws.specs.ShownLines.{entry_line}
use Rattle.kds_defs.specs.Journal.{Journal, Line}
use Rattle.kcl_journal.specs.declared.line.EntryLine.{EntryLine}
use Rattle.kcl_journal.specs.declared.line.TheConstants.{FIRST_VERSION, VERSION}
use Rattle.kcl_journal.specs.Entries.{end_of, entry_of, heading}
use Rattle.kcl_audit_streams.specs.declared.rule.Rule.{Rule}
use Rattle.kcl_audit_streams.specs.declared.rule.Rule.TheVariants as rule
use Rattle.kcl_audit_streams.specs.Verdict.{Verdict, end_verdict, verdict}
use Rattle.kds_lines.specs.Lines as input
use Rattle.kds_lines.specs.Lines.{End, lined}

-- The line of a journal for this entry, with zero bytes for a put's key and payload, which texts don't show.
abbrev pub line_of : (e : EntryLine) → Line
line_of e = entry_line e.clock e.by e.what

-- How far an audit is: at the start, among good entries (version, journal, count), closed (count), or at a bad one.
pub data Progress : Type 0 where
  fresh : Progress
  going : ℕ → Journal → ℕ → Progress
  closed : ℕ → Progress
  found : ℕ → Rule → Progress

-- The next count, which stays at 2^64 - 1, the greatest `u64`.
abbrev pub next : (n : ℕ) → ℕ
next n = min (n + 1) (2 ^ 64 - 1)

-- The progress after the entry `e` with this verdict, after the `count` entries of `log`.
abbrev pub after_entry : (version : ℕ) (log : Journal) (count : ℕ) (e : EntryLine) (verdict : Verdict) → Progress
after_entry version log count e (Ok u) = going version (line_of e ∷ log) (next count)
after_entry version log count e (Err r) = found (next count) r

-- The progress after the last line with this verdict, after `count` entries.
abbrev pub after_end : (count : ℕ) (verdict : Verdict) → Progress
after_end count (Ok u) = closed count
after_end count (Err r) = found (next count) r

-- The progress after a line that is no entry: a last line is judged by its clock; None breaks the rule `Form`.
abbrev pub after_other : (log : Journal) (count : ℕ) (clock : Option ℕ) → Progress
after_other log count None = found (next count) rule.Form
after_other log count (Some clock) = after_end count (end_verdict log clock)

-- The progress after the line `text`, read as the entry `e`, or as no entry.
abbrev pub after_line : (version : ℕ) (log : Journal) (count : ℕ) (text : List ℕ) (e : Option EntryLine) → Progress
after_line version log count text (Some e) = after_entry version log count e (verdict log (line_of e))
after_line version log count text None = after_other log count (end_of text)

-- The progress after one line of a text in this version, after the `count` entries of `log`.
abbrev pub line_step : (version : ℕ) (log : Journal) (count : ℕ) (text : List ℕ) → Progress
line_step version log count text = after_line version log count text (entry_of version text)

-- The progress after one more line; a first line may be a heading, and none may follow the last line.
abbrev pub step : (fresh : Progress) (text : List ℕ) → Progress
step fresh text = if bytes_eq text heading then going VERSION [] 0 else line_step FIRST_VERSION [] 0 text
step (going version log count) text = line_step version log count text
step (closed count) text = found (next (next count)) rule.Form
step (found n r) text = found n r

-- The progress after these lines, from `p` on.
abbrev pub progress_from : (p : Progress) (texts : List (List ℕ)) → Progress
progress_from p [] = p
progress_from p (text ∷ texts) = progress_from (step p text) texts

-- How far an audit is after the first lines of a text.
abbrev pub progress : (texts : List (List ℕ)) → Progress
progress texts = progress_from fresh texts

-- ---- The result of an audit

-- An audit's result: all entries good (their number), the first bad one and its rule, or too long before a bad one.
pub data AuditEnd : Type 0 where
  sound : ℕ → AuditEnd
  unsound : ℕ → Rule → AuditEnd
  over : AuditEnd

-- The result if the input ends after `count` entries without a last line.
abbrev pub without_end : (count : ℕ) (end : End) → AuditEnd
without_end count input.too_long = over
without_end count _ = unsound (next count) rule.Form

-- The result after the last line: sound if the input ends with it; an unfinished line breaks the rule `Form`.
abbrev pub behind_end : (count : ℕ) (end : End) → AuditEnd
behind_end count input.whole = sound count
behind_end count input.unfinished = unsound (next (next count)) rule.Form
behind_end count input.too_long = over

-- The result from the progress if the input ends as `end`.
abbrev pub finish : (fresh : Progress) (end : End) → AuditEnd
finish fresh end = without_end 0 end
finish (going version log count) end = without_end count end
finish (closed count) end = behind_end count end
finish (found n r) end = unsound n r

-- The result of an audit: the number of sound entries, the rule that one breaks, or a length that is too great.
abbrev pub audit_of : (bytes : List ℕ) → AuditEnd
audit_of bytes = finish (progress (lined bytes).texts) (lined bytes).end
