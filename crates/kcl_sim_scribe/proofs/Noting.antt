-- The scribe writes the lines that a turn adds, and then knows the streams of the journal.
use Rattle.std.proofs.Common.{false, ◌≡◌, ℕ, ◌+◌, ◌≤◌, max, List, [], ◌∷◌, ◌++◌, map, refl, sym, ap, ◌∙◌, subst}
use Rattle.std.specs.Prelude.{◌==◌, Ok, Err}
use Rattle.kds_defs.specs.declared.command.Command.{Command}
use Rattle.kds_defs.specs.declared.command.Command.TheVariants as command
use Rattle.kds_defs.specs.declared.command.Turn.{Turn}
use Rattle.kds_defs.specs.declared.entry.Entry.{Entry}
use Rattle.kds_defs.specs.declared.entry.Entry.TheVariants as entry
use Rattle.kds_defs.specs.declared.reply.Refusal.{Refusal}
use Rattle.kds_defs.specs.declared.reply.Reply.{Reply}
use Rattle.kds_defs.specs.declared.reply.Reply.TheVariants as reply
use Rattle.kds_defs.specs.Decision.{Decision, Refused, Accepted}
use Rattle.kds_defs.specs.Histories.{answer, answer_of, clock, decision, journal, lines_of}
use Rattle.kds_defs.specs.Journal.{Journal, Line, plain_line, with_lines}
use Rattle.kds_defs.specs.Lawful.{IsLawful, IsLawfulCommand}
use Rattle.kds_defs.specs.StreamCommands.{last_number}
use Rattle.kds_defs.specs.Streams.{made_count}
use Rattle.kds_defs.proofs.Walk as walks
use Rattle.kds_defs.proofs.Walk.{Outcome, Adds, Answers, Creates, Surveys}
use Rattle.kcl_journal.specs.declared.line.EntryLine.{EntryLine}
use Rattle.kcl_sim_scribe.specs.Added.{added_entries, told_by}
use Rattle.kcl_sim_scribe.specs.Known.{Known, Knows, ScribeValue, StandsFor, changed_by, new_known}
use Rattle.kcl_sim_scribe.specs.Telling.{CanTell, entries_of, line_by, lines_by, told_after, told_lines}
use Rattle.kcl_sim_scribe.proofs.Making.{knows_made}
use Rattle.kcl_sim_scribe.proofs.Readings.{knows_all}
use Rattle.kcl_sim_scribe.proofs.Tellings.{IsOther, Told, tells}

-- The scribe can write an accepted command's lines, writes just these, and then knows the streams.
pub record Noted (s : ScribeValue) (log : Journal) (c actor : ℕ) (asked : Command) (lines : List Line) (r : Reply) :
    Type 0 where
  pub can : CanTell s asked
  pub lines_are : told_lines s c actor asked r ≡ map told_by lines
  pub knows : Knows (with_lines lines log) (told_after s asked r).made (told_after s asked r).streams

what_of : (c actor : ℕ) (es : List Entry) → map (λ (l : EntryLine). l.what) (lines_by c actor es) ≡ es
what_of c actor [] = refl
what_of c actor (e ∷ es) = ap (λ xs. e ∷ xs) (what_of c actor es)

told_what : (lines : List Line) → map (λ (l : EntryLine). l.what) (map told_by lines) ≡ map (λ (l : Line). l.what) lines
told_what [] = refl
told_what (l ∷ ls) = ap (λ xs. l.what ∷ xs) (told_what ls)

whats : (lines : List Line) (c actor : ℕ) (es : List Entry) → map told_by lines ≡ lines_by c actor es
    → map (λ (l : Line). l.what) lines ≡ es
whats lines c actor es h = sym (told_what lines) ∙ ap (map (λ (l : EntryLine). l.what)) h ∙ what_of c actor es

module _ (s : ScribeValue) (log : Journal) (c actor : ℕ) (k : Knows log s.made s.streams) where
  known_all : (asked : Command) (lines : List Line) (r : Reply) → Told log c actor s.streams asked lines r
      → Knows (with_lines lines log) s.made (changed_by (entries_of s.streams asked r) s.streams)
  known_all asked lines r t =
      subst (λ es. Knows (with_lines lines log) s.made (changed_by es s.streams))
      (whats lines c actor (entries_of s.streams asked r) t.told)
      (knows_all log lines s.made s.streams t.fits k)

  making : (name : List ℕ) (count : ℕ) → 1 ≤ count → (made_count log == last_number) ≡ false
      → Noted s log c actor (command.Create name count) (plain_line c actor (entry.Made (made_count log + 1) name count)
      ∷ [])
      reply.Done
  making name count some spent = record {
    can = (ap (λ n. n == last_number) (sym k.made_is) ∙ spent, some);
    lines_are = λ i. line_by c actor (entry.Made (sym k.made_is i + 1) name count) ∷ [];
    knows = subst
        (λ (n : ℕ). Knows (plain_line c actor (entry.Made (made_count log + 1) name count) ∷ log) (n + 1)
        (s.streams ++ new_known (n + 1) name count ∷ []))
        k.made_is
        (knows_made log c actor count name s.streams some (subst (λ n. Knows log n s.streams) (sym k.made_is) k));
  }

  others : (asked : Command) → IsOther asked → (lines : List Line) (r : Reply)
      → Told log c actor s.streams asked lines r
      → Noted s log c actor asked lines r
  others (command.Create name count) o lines r t = absurd o
  others asked o lines r t = record { can = t.can; lines_are = sym t.told; knows = known_all asked lines r t }

  all_of : (asked : Command) (lines : List Line) (r : Reply) → Outcome log c actor asked lines (Ok r)
      → (IsOther asked → Told log c actor s.streams asked lines r)
      → IsLawfulCommand asked → Noted s log c actor asked lines r
  all_of _ _ _ (Adds _ _ _ (Creates name count fits)) reported lawful = making name count lawful.1.0 fits
  all_of _ _ _ (Answers _ _ (Surveys keys rows)) reported lawful = others _ tt _ _ (reported tt)
  all_of _ _ _ _ reported lawful = others _ tt _ _ (reported tt)

  all : (asked : Command) (lines : List Line) (r : Reply) → Outcome log c actor asked lines (Ok r)
      → IsLawfulCommand asked
      → Noted s log c actor asked lines r
  all asked lines r is lawful = all_of asked lines r is (tells log c actor s.made s.streams k asked lines r is) lawful

-- ---- Turns

-- The scribe can write an accepted turn's lines, writes just these, and then knows the streams.
pub record NotedTurn (s : ScribeValue) (h : List Turn) (turn : Turn) (d : Decision) (r : Reply) : Type 0 where
  pub can : CanTell s turn.what
  pub lines_are : told_lines s (clock (turn ∷ h)) turn.by turn.what r ≡ map told_by (lines_of d)
  pub knows : Knows (with_lines (lines_of d) (journal h)) (told_after s turn.what r).made
      (told_after s turn.what r).streams

is_accepted : (d : Decision) (r : Reply) → Ok r ≡ answer_of d → d ≡ Accepted (lines_of d) r
is_accepted (Refused q) r e = absurd (cc e)
is_accepted (Accepted lines q) r e = let same : q ≡ r = cc in ap (λ x. Accepted lines x) same

pub accepted : (s : ScribeValue) (h : List Turn) (turn : Turn) (r : Reply) → StandsFor s h → IsLawful turn
    → Ok r ≡ answer h turn
    → NotedTurn s h turn (decision (journal h) (clock (turn ∷ h)) turn) r
accepted s h turn r st lawful e =
    let d : Decision = decision (journal h) (clock (turn ∷ h)) turn in
    let outcome = walks.accepted (journal h) (clock (turn ∷ h)) turn.by turn.what (lines_of d) r (is_accepted d r e) in
    let n = all s (journal h) (clock (turn ∷ h)) turn.by st.knows turn.what (lines_of d) r outcome lawful.1 in
    record { can = n.can; lines_are = n.lines_are; knows = n.knows }

refused_by : (d : Decision) (q : Refusal) → Err q ≡ answer_of d → lines_of d ≡ []
refused_by (Refused r) q e = refl
refused_by (Accepted lines r) q e = absurd (cc e)

pub refused : (s : ScribeValue) (h : List Turn) (turn : Turn) (q : Refusal) → StandsFor s h → Err q ≡ answer h turn
    → ([] ≡ added_entries h turn) × Knows (journal (turn ∷ h)) s.made s.streams
refused s h turn q st e =
    let none = refused_by (decision (journal h) (clock (turn ∷ h)) turn) q e in
    (ap (map told_by) (sym none), subst (λ ls. Knows (with_lines ls (journal h)) s.made s.streams) (sym none) st.knows)

-- The scribe stands for the history with the turn once its clock is raised to the turn's.
pub stands_at : (s t : ScribeValue) (h : List Turn) (turn : Turn) → StandsFor s h → t.clock ≡ max s.clock turn.at
    → Knows (journal (turn ∷ h)) t.made t.streams
    → StandsFor t (turn ∷ h)
stands_at s t h turn st clock_is knows =
    record { clock_is = ap (λ n. max n turn.at) st.clock_is ∙ sym clock_is; knows = knows }

-- ---- The lines as the code makes them

pub is_other : (asked : Command) → ((name : List ℕ) (count : ℕ) → asked ≡ command.Create name count → ⊥) → IsOther asked
is_other (command.Create name count) h = h name count refl
is_other asked h = tt

pub other_lines : (s : ScribeValue) (c actor : ℕ) (asked : Command) (r : Reply) → IsOther asked
    → lines_by c actor (entries_of s.streams asked r) ≡ told_lines s c actor asked r
other_lines s c actor (command.Create name count) r o = absurd o
other_lines s c actor asked r o = refl

pub other_after : (s : ScribeValue) (asked : Command)
    (r : Reply) → IsOther asked → record s { streams = changed_by (entries_of s.streams asked r) s.streams }
    ≡ told_after s asked r
other_after s (command.Create name count) r o = absurd o
other_after s asked r o = refl

pub changed_lines : (c actor : ℕ) (es : List Entry) (vs : List Known)
    → changed_by (map (λ (l : EntryLine). l.what) (lines_by c actor es)) vs ≡ changed_by es vs
changed_lines c actor es vs = ap (λ xs. changed_by xs vs) (what_of c actor es)
