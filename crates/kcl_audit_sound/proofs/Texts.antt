-- The journal text of a history whose numbers fit their types is legal, and an audit finds it good.
use Rattle.std.proofs.Common.{◌≡◌, ◌≢◌, ℕ, ◌^◌, ◌<◌, ◌≤◌, max, List, [], ◌∷◌, ◌++◌, map, reverse, refl, sym, ap, subst}
use Rattle.std.proofs.Common.{◌∙◌, arith, inr}
use Rattle.std.specs.Prelude.{flat_map}
use Rattle.std.specs.List.{AllByRecursion}
use Rattle.std.proofs.lemmas.List.{append_assoc, reverse-append}
use Rattle.kds_defs.specs.declared.command.Command.{Command}
use Rattle.kds_defs.specs.declared.command.Turn.{Turn}
use Rattle.kds_defs.specs.declared.reply.Reply.{Reply}
use Rattle.kds_defs.specs.Decision.{Accepted, Decision, Refused}
use Rattle.kds_defs.specs.Histories.{clock, decide, decision, journal, lines_of}
use Rattle.kds_defs.specs.Journal.{Journal, Line, with_lines}
use Rattle.kds_defs.specs.Lawful.{IsHistory, IsLawfulCommand}
use Rattle.kds_defs.specs.Legal.{IsLegal, IsReached, last_clock}
use Rattle.kcl_laws.specs.ShownLines.{shown_journal, shown_line}
use Rattle.kcl_script_fields.specs.Commands.{AreNumbers}
use Rattle.kcl_journal.specs.declared.line.EntryLine.{EntryLine}
use Rattle.kcl_journal.specs.declared.line.TheConstants.{VERSION}
use Rattle.kcl_journal.specs.Ranges.{IsEntryLine}
use Rattle.kcl_journal.specs.Entries.{end_spelling, entry_spelling, heading}
use Rattle.kcl_audit.specs.Progress.{audit_of, line_of, over, sound}
use Rattle.kcl_audit.specs.Text.{IsJournal, counted, entries_text, journal_of, with_feed}
use Rattle.kcl_sim_scribe.specs.Added.{history_entries, journal_text, told_by}
use Rattle.kcl_audit_sound.specs.Bits.{HaveBits}
use Rattle.kcl_audit_sound.proofs.Streams.{AreTold, IsBy}

-- ---- The lines of a history's journal

under_max : (a b m : ℕ) → a < m → b < m → max a b < m
under_max a b m h g = omega arith

clock_fits : (h : List Turn) → IsHistory h → clock h < 2 ^ 62
clock_fits [] lawful = omega arith
clock_fits (turn ∷ h) lawful = under_max (clock h) turn.at (2 ^ 62) (clock_fits h lawful.1) lawful.0.0

with_told : (lines : List Line) (log : Journal) → AreTold lines → AreTold log → AreTold (with_lines lines log)
with_told [] log new old = old
with_told (line ∷ lines) log new old = with_told lines (line ∷ log) new.1 (new.0, old)

-- Assumed law: each line of a command accepted after a legal journal can be written as text.
abbrev pub TellsLines : Type 0
TellsLines = (log : Journal) (c actor : ℕ) (command : Command) (lines : List Line) (reply : Reply) → IsLegal log
    → IsBy c actor
    → IsLawfulCommand command → AreNumbers command
    → decide log c actor command ≡ Accepted lines reply → AreTold lines

module _ (tells : TellsLines) (reached : (h : List Turn) → IsHistory h → IsReached (journal h) (clock h)) where
  by_decision : (log : Journal) (c actor : ℕ) (command : Command) (d : Decision) → decide log c actor command ≡ d
      → IsLegal log
      → IsBy c actor → IsLawfulCommand command → AreNumbers command → AreTold (lines_of d)
  by_decision log c actor command (Refused r) h legal is lawful bits = tt
  by_decision log c actor command (Accepted lines reply) h legal is lawful bits =
      tells log c actor command lines reply legal is lawful bits h

  told_journal : (h : List Turn) → IsHistory h → HaveBits h → AreTold (journal h)
  told_journal [] lawful bits = tt
  told_journal (turn ∷ h) lawful bits =
      let c = clock (turn ∷ h) in
      let is : IsBy c turn.by = record { clock = clock_fits (turn ∷ h) lawful; actor = bits.0.0 } in
      with_told (lines_of (decision (journal h) c turn)) (journal h)
      (by_decision (journal h) c turn.by turn.what (decision (journal h) c turn) refl (reached h lawful.1).legal is
      lawful.0.1 bits.0.1)
      (told_journal h lawful.1 bits.1)

-- ---- The lines as entries of a text, the oldest first

-- Each entry can be written as text.
abbrev AreLines : List EntryLine → Type 0
AreLines es = AllByRecursion (IsEntryLine VERSION) es

push_line : (es : List EntryLine) (e : EntryLine) → AreLines es → IsEntryLine VERSION e → AreLines (es ++ e ∷ [])
push_line [] e all is = (is, tt)
push_line (x ∷ es) e all is = (all.0, push_line es e all.1 is)

oldest_first : (log : Journal) → AreTold log → AreLines (reverse (map told_by log))
oldest_first [] are = tt
oldest_first (line ∷ log) are =
    subst AreLines (sym (reverse-append (told_by line ∷ []) (map told_by log)))
    (push_line (reverse (map told_by log)) (told_by line) (oldest_first log are.1) are.0)

each_shown : (log : Journal) → map line_of (map told_by log) ≡ shown_journal log
each_shown [] = refl
each_shown (line ∷ log) = ap (λ ls. shown_line line ∷ ls) (each_shown log)

map_push : (es : List EntryLine) (e : EntryLine) → map line_of (es ++ e ∷ []) ≡ map line_of es ++ line_of e ∷ []
map_push [] e = refl
map_push (x ∷ es) e = ap (λ ls. line_of x ∷ ls) (map_push es e)

map_reverse : (es : List EntryLine) → reverse (map line_of (reverse es)) ≡ map line_of es
map_reverse [] = refl
map_reverse (e ∷ es) =
    ap (λ xs. reverse (map line_of xs)) (reverse-append (e ∷ []) es)
    ∙ ap reverse (map_push (reverse es) e)
    ∙ reverse-append (map line_of (reverse es)) (line_of e ∷ [])
    ∙ ap (λ ls. line_of e ∷ ls) (map_reverse es)

told_journal_is : (h : List Turn) → journal_of (history_entries h) ≡ shown_journal (journal h)
told_journal_is h = map_reverse (map told_by (journal h)) ∙ each_shown (journal h)

text_is : (h : List Turn) → journal_text h ≡ entries_text VERSION (history_entries h) (clock h)
text_is h = sym (append_assoc heading (10 ∷ [])
    (flat_map (λ e. with_feed (entry_spelling VERSION e)) (history_entries h) ++ with_feed (end_spelling (clock h))))

-- Assumed: `TellsLines`, the journal is reached at its clock, also as shown, and legal texts are found good.
module _
    (tells : TellsLines)
    (reached : (h : List Turn) → IsHistory h → IsReached (journal h) (clock h))
    (shown : (log : Journal) (c : ℕ) → IsReached log c → IsReached (shown_journal log) c)
    (complete : (bytes : List ℕ) (n : ℕ) → IsJournal bytes n → audit_of bytes ≢ over → audit_of bytes ≡ sound n) where
  pub all_lines : (h : List Turn) → IsHistory h → HaveBits h → AllByRecursion (IsEntryLine VERSION) (history_entries h)
  all_lines h lawful bits = oldest_first (journal h) (told_journal tells reached h lawful bits)

  pub is_journal : (h : List Turn) → IsHistory h → HaveBits h
      → IsJournal (journal_text h) (counted 0 (history_entries h))
  is_journal h lawful bits =
      let shows = shown (journal h) (clock h) (reached h lawful) in
      let is = sym (told_journal_is h) in
      record {
        version = VERSION;
        entries = history_entries h;
        end = clock h;
        is_version = inr refl;
        in_time = clock_fits h lawful;
        lines = all_lines h lawful bits;
        legal = subst IsLegal is shows.legal;
        order = subst (λ log. last_clock log ≤ clock h) is shows.order;
        text = text_is h;
        many = refl;
      }

  -- Unless a line or the whole text is too long, an audit finds every entry good.
  pub is_sound : (h : List Turn) → IsHistory h → HaveBits h → audit_of (journal_text h) ≢ over
      → audit_of (journal_text h) ≡ sound (counted 0 (history_entries h))
  is_sound h lawful bits within =
      complete (journal_text h) (counted 0 (history_entries h)) (is_journal h lawful bits) within
