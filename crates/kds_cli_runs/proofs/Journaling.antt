-- A journal-writing replay writes first line, entries and last line, or the part that its status says.
use Rattle.std.proofs.Common.{◌≡◌, ◌≢◌, ◌<◌, ℕ, true, false, List, [], ◌∷◌, ◌++◌, length, Option, Some, None, refl, sym}
use Rattle.std.proofs.Common.{ap, ◌∙◌, subst, inl, arith}
use Rattle.std.proofs.lemmas.List.{append_assoc, append-nil, length-append}
use Rattle.std.specs.Io.KnownBytes.{Appends}
use Rattle.std.specs.Option.{IfSome}
use Rattle.std.proofs.KnownBytes.{Appends-nil, Appends-trans}
use Rattle.kds_defs.specs.declared.command.Turn.{Turn}
use Rattle.kds_defs.specs.Histories.{clock}
use Rattle.kds_defs.specs.Lawful.{IsHistory}
use Rattle.kds_ends.proofs.Writing.{front_later, front_longer, front_part, part_front, part_later}
use Rattle.kds_ends.specs.Causes.{AppendsFront, AppendsPart}
use Rattle.kds_ends.specs.declared.status.Status.{Status}
use Rattle.kds_ends.specs.declared.status.Status.TheVariants.{Done, BadLine, Read, Write, Memory, TooLong}
use Rattle.kcl_audit.specs.Progress.{audit_of, over, sound}
use Rattle.kcl_audit.specs.Text.{counted}
use Rattle.kds_cli_runs.specs.Entries.{lines_journal}
use Rattle.kcl_sim_scribe.specs.Added.{entries_text, history_entries, journal_text}
use Rattle.kcl_journal.specs.Entries.{end_spelling}
use Rattle.kcl_sim.specs.Output.{fresh, with_schedule}
use Rattle.kcl_sim.specs.Schedule.{history, judged}
use Rattle.kcl_sim.specs.Standing.{RunsSo, SimValue}
use Rattle.kcl_audit_sound.specs.Bits.{HaveBits}
use Rattle.kds_cli_runs.specs.Answered.{HasMade, RanBy, Remains}
use Rattle.kds_cli_runs.specs.Journal.{EndTells, IsAuditedSound, JournalTells, entries, first_line, is_done, last_line}
use Rattle.kds_cli_runs.specs.Journal.{recorded}
use Rattle.kds_cli_runs.specs.Told.{TellsBy}

-- ---- A first part that isn't the whole text

longer : (xs ys : List ℕ) → 0 < length ys → 0 < length (xs ++ ys)
longer xs ys some = let both = length-append xs ys in omega arith

some_last : (c : ℕ) → 0 < length (last_line c)
some_last c = longer (end_spelling c) (10 ∷ []) (omega arith)

some_behind : (xs : List ℕ) (c : ℕ) → 0 < length (xs ++ last_line c)
some_behind xs c = longer xs (last_line c) (some_last c)

no_last : (c : ℕ) (held now : Option (List ℕ)) → Appends held now [] → AppendsPart held now (last_line c)
no_last c held now e = ([], last_line c, some_last c, refl, e)

pub nothing_recorded : (h : List Turn) (held : Option (List ℕ)) → AppendsPart held held (journal_text h)
nothing_recorded h held =
    ([], journal_text h, some_behind (first_line ++ entries_text (history_entries h)) (clock h), refl, Appends-nil held)

-- ---- The first line of the journal

broke_first : (bytes : List ℕ) (left held now : Option (List ℕ)) → AppendsFront held now first_line
    → JournalTells Write bytes left held now
broke_first bytes left held now f =
    front_part held now first_line (entries bytes ++ last_line (clock (history bytes))) f
    (some_behind (entries bytes) (clock (history bytes)))

pub first_broke : (all left held now : Option (List ℕ)) (line : List ℕ) → line ≡ first_line → AppendsFront held now line
    → IfSome all (λ bytes. JournalTells Write bytes left held now)
first_broke None left held now line is f = tt
first_broke (Some bytes) left held now line is f =
    broke_first bytes left held now (subst (λ (l : List ℕ). AppendsFront held now l) is f)

pub first_there : (held now : Option (List ℕ)) (line : List ℕ) → line ≡ first_line → Appends held now line
    → Appends held now first_line
first_there held now line is h = subst (λ (l : List ℕ). Appends held now l) is h

-- ---- The entries after the first line

part_of_all : (bytes : List ℕ) (held now : Option (List ℕ)) → AppendsFront held now (first_line ++ entries bytes)
    → AppendsPart held now (journal_text (history bytes))
part_of_all bytes held now f =
    front_part held now (first_line ++ entries bytes) (last_line (clock (history bytes))) f
    (some_last (clock (history bytes)))

begins : (st : Status) (bytes : List ℕ) (left a b c : Option (List ℕ)) → (st ≡ Done → ⊥) → Appends a b first_line
    → TellsBy entries st bytes left b c → JournalTells st bytes left a c
begins Done bytes left a b c not_done h t = absurd (not_done refl)
begins (BadLine n) bytes left a b c not_done h t = (t.0, Appends-trans a b c first_line (entries bytes) h t.1)
begins TooLong bytes left a b c not_done h t = (t.0, Appends-trans a b c first_line (entries bytes) h t.1)
begins Read bytes left a b c not_done h t = (t.0, t.1, t.2, t.3, Appends-trans a b c first_line (entries t.0) h t.4)
begins Write bytes left a b c not_done h t = part_of_all bytes a c (front_later a b c first_line (entries bytes) h t)
begins Memory bytes left a b c not_done h t = part_of_all bytes a c (front_later a b c first_line (entries bytes) h t)
begins _ bytes left a b c not_done h t = absurd t

-- A status other than Done stays right with the first line in front.
pub begins_all : (st : Status) (all left a b c : Option (List ℕ)) (line : List ℕ) → line ≡ first_line → (st ≡ Done → ⊥)
    → Appends a b line
    → IfSome all (λ bytes. TellsBy entries st bytes left b c) → IfSome all (λ bytes. JournalTells st bytes left a c)
begins_all st None left a b c line is not_done h t = tt
begins_all st (Some bytes) left a b c line is not_done h t =
    begins st bytes left a b c not_done (subst (λ (l : List ℕ). Appends a b l) is h) t

-- ---- The last line after the entries

all_ran : (bytes : List ℕ) (b c : Option (List ℕ)) (s : SimValue) → RanBy lines_journal Done bytes b c s
    → s.history ≡ history bytes
all_ran bytes b c s r =
    r.made.history ∙ ap (λ ls. (with_schedule fresh ls).history)
    (sym (r.parts ∙ ap (λ z. r.lines ++ z) r.remains.0 ∙ append-nil r.lines))

ends_at : (st : Status) (bytes : List ℕ) (left a b c d : Option (List ℕ)) → Appends a b first_line
    → TellsBy entries Done bytes left b c
    → EndTells st (clock (history bytes)) c d → JournalTells st bytes left a d
ends_at Done bytes left a b c d h t e = (
  t.0,
  Appends-trans a c d (first_line ++ entries bytes) (last_line (clock (history bytes)))
      (Appends-trans a b c first_line (entries bytes) h t.1) e,
)
ends_at Write bytes left a b c d h t e =
    part_later a c d (first_line ++ entries bytes) (last_line (clock (history bytes)))
    (Appends-trans a b c first_line (entries bytes) h t.1) e
ends_at Memory bytes left a b c d h t e =
    part_later a c d (first_line ++ entries bytes) (last_line (clock (history bytes)))
    (Appends-trans a b c first_line (entries bytes) h t.1)
    (no_last (clock (history bytes)) c d e)
ends_at _ bytes left a b c d h t e = absurd e

pub ends_all : (st : Status) (all left a b c d : Option (List ℕ)) (line : List ℕ) (s : SimValue) (last : ℕ)
    → line ≡ first_line → last ≡ clock s.history → Appends a b line
    → IfSome all (λ bytes. TellsBy entries Done bytes left b c)
    → IfSome all (λ bytes. RanBy lines_journal Done bytes b c s)
    → EndTells st last c d → IfSome all (λ bytes. JournalTells st bytes left a d)
ends_all st None left a b c d line s last is is_at h t r e = tt
ends_all st (Some bytes) left a b c d line s last is is_at h t r e =
    ends_at st bytes left a b c d (subst (λ (l : List ℕ). Appends a b l) is h) t
    (subst (λ (n : ℕ). EndTells st n c d) (is_at ∙ ap clock (all_ran bytes b c s r)) e)

-- If all entries were written, the run ends with the status `st` of writing the journal's last line.
pub ends_with : (entered st : Status) (all left a b c d : Option (List ℕ)) (s : SimValue) (last : ℕ) → entered ≡ Done
    → last ≡ clock s.history → Appends a b first_line
    → IfSome all (λ bytes. TellsBy entries entered bytes left b c)
    → IfSome all (λ bytes. RanBy lines_journal entered bytes b c s)
    → EndTells st last c d → IfSome all (λ bytes. JournalTells st bytes left a d)
ends_with entered st all left a b c d s last done is_at h t r e =
    ends_all st all left a b c d first_line s last refl is_at h
    (subst (λ (x : Status). IfSome all (λ bytes. TellsBy entries x bytes left b c)) done t)
    (subst (λ (x : Status). IfSome all (λ bytes. RanBy lines_journal x bytes b c s)) done r) e

pub no_write : Write ≡ Done → ⊥
no_write h = cc

pub false_true : false ≡ true → ⊥
false_true h = absurd cc

pub done_by : (st : Status) → is_done st ≡ true → st ≡ Done
done_by Done h = refl
done_by _ h = absurd (false_true h)

pub not_done_by : (st : Status) → is_done st ≡ false → st ≡ Done → ⊥
not_done_by st h is = absurd (false_true (sym h ∙ ap is_done is))

-- ---- The numbers in the turns

pub bits_all : (entered : Status) (all b c : Option (List ℕ)) (s : SimValue) → entered ≡ Done → HaveBits s.history
    → IfSome all (λ bytes. RanBy lines_journal entered bytes b c s) → IfSome all (λ bytes. HaveBits (history bytes))
bits_all entered None b c s done a r = tt
bits_all entered (Some bytes) b c s done a r =
    subst (λ (z : List Turn). HaveBits z)
    (all_ran bytes b c s (subst (λ (x : Status). RanBy lines_journal x bytes b c s) done r)) a

pub audited_all : (all : Option (List ℕ)) → ((bytes : List ℕ) → IsHistory (history bytes))
    → ((h : List Turn) → IsHistory h → HaveBits h → audit_of (journal_text h) ≢ over
    → audit_of (journal_text h) ≡ sound (counted 0 (history_entries h)))
    → IfSome all (λ bytes. HaveBits (history bytes)) → IfSome all IsAuditedSound
audited_all None lawful law bits = tt
audited_all (Some bytes) lawful law bits = law (history bytes) (lawful bytes) bits

-- ---- The lines that were run

behind : (first all front back : List ℕ) → all ≡ front ++ back → first ++ all ≡ (first ++ front) ++ back
behind first all front back e = ap (λ z. first ++ z) e ∙ sym (append_assoc first front back)

between : (first all front back rest : List ℕ) → all ≡ front ++ back
    → first ++ (all ++ rest) ≡ (first ++ front) ++ (back ++ rest)
between first all front back rest e =
    ap (λ z. first ++ (z ++ rest)) e ∙ ap (λ z. first ++ z) (append_assoc front back rest)
    ∙ sym (append_assoc first front (back ++ rest))

ran_behind : (st : Status) (bytes : List ℕ) (a b c : Option (List ℕ)) (s : SimValue) → (st ≡ Done → ⊥)
    → Appends a b first_line
    → RanBy lines_journal st bytes b c s → RanBy (recorded st) st bytes a c s
ran_behind Done bytes a b c s not_done h r = absurd (not_done refl)
ran_behind Write bytes a b c s not_done h r = record {
  lines = r.lines;
  later = r.later;
  parts = r.parts;
  made = r.made;
  front = first_line ++ r.front;
  back = r.back ++ last_line (clock (with_schedule fresh r.lines).history);
  output_is = between first_line (lines_journal r.lines) r.front r.back
      (last_line (clock (with_schedule fresh r.lines).history)) r.output_is;
  written = Appends-trans a b c first_line r.front h r.written;
  remains = tt;
}
ran_behind Memory bytes a b c s not_done h r = record {
  lines = r.lines;
  later = r.later;
  parts = r.parts;
  made = r.made;
  front = first_line ++ r.front;
  back = r.back ++ last_line (clock (with_schedule fresh r.lines).history);
  output_is = between first_line (lines_journal r.lines) r.front r.back
      (last_line (clock (with_schedule fresh r.lines).history)) r.output_is;
  written = Appends-trans a b c first_line r.front h r.written;
  remains = tt;
}
ran_behind _ bytes a b c s not_done h r = record {
  lines = r.lines;
  later = r.later;
  parts = r.parts;
  made = r.made;
  front = first_line ++ r.front;
  back = r.back;
  output_is = behind first_line (lines_journal r.lines) r.front r.back r.output_is;
  written = Appends-trans a b c first_line r.front h r.written;
  remains = r.remains;
}

pub ran_behind_all : (st : Status) (all a b c : Option (List ℕ)) (s : SimValue) → (st ≡ Done → ⊥)
    → Appends a b first_line
    → IfSome all (λ bytes. RanBy lines_journal st bytes b c s)
    → IfSome all (λ bytes. RanBy (recorded st) st bytes a c s)
ran_behind_all st None a b c s not_done h r = tt
ran_behind_all st (Some bytes) a b c s not_done h r = ran_behind st bytes a b c s not_done h r

ran_whole : (bytes : List ℕ) (a b c : Option (List ℕ)) (s : SimValue) → Appends a b first_line
    → (r : RanBy lines_journal Done bytes b c s)
    → Appends a c (first_line ++ lines_journal r.lines)
ran_whole bytes a b c s h r =
    Appends-trans a b c first_line (lines_journal r.lines) h
    (subst (λ (z : List ℕ). Appends b c z) (sym (r.output_is ∙ ap (λ z. r.front ++ z) r.remains.1 ∙ append-nil r.front))
    r.written)

ran_front : (st : Status) (bytes : List ℕ) (a b c d : Option (List ℕ)) (s : SimValue)
    (r : RanBy lines_journal Done bytes b c s)
    → (front back : List ℕ) → HasMade st r.lines r.later s → recorded st r.lines ≡ front ++ back
    → Remains st r.later back → Appends a d front
    → RanBy (recorded st) st bytes a d s
ran_front st bytes a b c d s r front back made is remains w = record {
  lines = r.lines;
  later = r.later;
  parts = r.parts;
  made = made;
  front = front;
  back = back;
  output_is = is;
  written = w;
  remains = remains;
}

ran_ended : (st : Status) (bytes : List ℕ) (a b c d : Option (List ℕ)) (s : SimValue) → Appends a b first_line
    → (r : RanBy lines_journal Done bytes b c s)
    → EndTells st (clock (with_schedule fresh r.lines).history) c d → RanBy (recorded st) st bytes a d s
ran_ended Done bytes a b c d s h r e =
    let line = last_line (clock (with_schedule fresh r.lines).history) in
    ran_front Done bytes a b c d s r (recorded Done r.lines) [] r.made (sym (append-nil _)) (r.remains.0, refl)
    (Appends-trans a c d (first_line ++ lines_journal r.lines) line (ran_whole bytes a b c s h r) e)
ran_ended Write bytes a b c d s h r e =
    let last = last_line (clock (with_schedule fresh r.lines).history) in
    let f = front_later a c d (first_line ++ lines_journal r.lines) last (ran_whole bytes a b c s h r)
    (part_front c d last e) in
    ran_front Write bytes a b c d s r f.0 f.1 r.made f.2 tt f.3
ran_ended Memory bytes a b c d s h r e =
    let last = last_line (clock (with_schedule fresh r.lines).history) in
    let f = front_later a c d (first_line ++ lines_journal r.lines) last (ran_whole bytes a b c s h r) (
      [],
      last,
      refl,
      e,
    ) in
    ran_front Memory bytes a b c d s r f.0 f.1 (inl r.made) f.2 tt f.3
ran_ended _ bytes a b c d s h r e = absurd e

ran_ended_all : (st : Status) (all a b c d : Option (List ℕ)) (s : SimValue) (last : ℕ) → last ≡ clock s.history
    → Appends a b first_line
    → IfSome all (λ bytes. RanBy lines_journal Done bytes b c s) → EndTells st last c d
    → IfSome all (λ bytes. RanBy (recorded st) st bytes a d s)
ran_ended_all st None a b c d s last is_at h r e = tt
ran_ended_all st (Some bytes) a b c d s last is_at h r e =
    ran_ended st bytes a b c d s h r (subst (λ (n : ℕ). EndTells st n c d) (is_at ∙ ap clock r.made.history) e)

-- The whole output is first line, entries, and what was written of the last line.
pub ran_ends_with : (entered st : Status) (all a b c d : Option (List ℕ)) (s : SimValue) (last : ℕ) → entered ≡ Done
    → last ≡ clock s.history → Appends a b first_line
    → IfSome all (λ bytes. RanBy lines_journal entered bytes b c s) → EndTells st last c d
    → IfSome all (λ bytes. RanBy (recorded st) st bytes a d s)
ran_ends_with entered st all a b c d s last done is_at h r e =
    ran_ended_all st all a b c d s last is_at h
    (subst (λ (x : Status). IfSome all (λ bytes. RanBy lines_journal x bytes b c s)) done r) e

none_ran : (bytes : List ℕ) (a b : Option (List ℕ)) (s : SimValue) → RunsSo s fresh → AppendsFront a b first_line
    → RanBy (recorded Write) Write bytes a b s
none_ran bytes a b s made f =
    let m = front_longer a b first_line (lines_journal [] ++ last_line (clock [])) f in
    record {
      lines = [];
      later = (judged bytes).lines;
      parts = refl;
      made = made;
      front = m.0;
      back = m.1;
      output_is = m.2;
      written = m.3;
      remains = tt;
    }

pub none_ran_all : (all a b : Option (List ℕ)) (s : SimValue) (line : List ℕ) → line ≡ first_line → RunsSo s fresh
    → AppendsFront a b line
    → IfSome all (λ bytes. RanBy (recorded Write) Write bytes a b s)
none_ran_all None a b s line is made f = tt
none_ran_all (Some bytes) a b s line is made f =
    none_ran bytes a b s made (subst (λ (l : List ℕ). AppendsFront a b l) is f)
