-- If an audit finds every entry good, the bytes are the text of a legal journal.
use Rattle.std.proofs.Common.{◌≡◌, ℕ, ◌+◌, ◌≤◌, ◌<◌, ◌^◌, Bool, true, false, List, [], ◌∷◌, ◌++◌, length, map, Option}
use Rattle.std.proofs.Common.{Some, None, refl, sym, ap, subst, arith}
use Rattle.std.proofs.Common.{◌∙◌, inl, inr}
use Rattle.std.specs.Prelude.{nat_lt, reverse, flat_map, if◌then◌else◌, Ok, Err}
use Rattle.std.specs.List.{AllByRecursion, join_with_byte}
use Rattle.std.specs.Str.{bytes_eq}
use Rattle.std.proofs.lemmas.List.{append-nil, append_assoc, reverse-append}
use Rattle.std.proofs.lemmas.Slice.Eq.{bytes_eq-Decides}
use Rattle.std.proofs.lemmas.List.Splits.{join_with_byte-slice_split}
use Rattle.kcl_laws.proofs.Added.{not_past}
use Rattle.kcl_laws.specs.ShownLines.{entry_line}
use Rattle.kds_defs.specs.declared.entry.Entry.{Entry}
use Rattle.kds_defs.specs.Journal.{Journal, Line, with_lines}
use Rattle.kds_defs.specs.Legal.{IsGood, IsLegal, last_clock}
use Rattle.kds_lines.specs.Lines.{End, Lined, ended, is_too_long, last_of, lined, lined_from, pieces, preceded}
use Rattle.kds_lines.specs.Lines.{too_long}
use Rattle.kds_lines.specs.Lines.{unfinished, whole}
use Rattle.kcl_journal.specs.declared.line.EntryLine.{EntryLine}
use Rattle.kcl_journal.specs.declared.line.TheConstants.{FIRST_VERSION, VERSION}
use Rattle.kcl_journal.specs.Entries.{IsVersion, end_of, end_spelling, entry_of, entry_spelling, heading}
use Rattle.kcl_journal.specs.Ranges.{IsEntryLine}
use Rattle.kcl_audit_streams.specs.declared.rule.Rule.{Rule}
use Rattle.kcl_audit_streams.specs.declared.rule.Rule.TheVariants as rule
use Rattle.kcl_audit_streams.specs.Verdict.{IsFit, Verdict, verdict}
use Rattle.kcl_audit.specs.Progress.{Progress, after_end, after_entry, after_line, after_other, audit_of, closed}
use Rattle.kcl_audit.specs.Progress.{finish, found, fresh, going}
use Rattle.kcl_audit.specs.Progress.{line_of, next, progress, progress_from, sound, step}
use Rattle.kcl_audit.specs.Text.{IsJournal, counted, heading_text, journal_of, with_feed}
use Rattle.kcl_audit.proofs.Fits.{tellable_fit}

-- ---- Bytes and their lines

-- The lines as text, each ended by a line feed.
abbrev lines_text : List (List ℕ) → List ℕ
lines_text ts = flat_map with_feed ts

by_over : (b : Bool) → (if b then too_long else unfinished) ≡ whole → ⊥
by_over true h = cc
by_over false h = cc

last_whole : (used : ℕ) (piece : List ℕ) → (last_of used piece).end ≡ whole
    → piece ≡ lines_text (last_of used piece).texts
last_whole used [] h = refl
last_whole used (b ∷ bs) h = absurd (by_over (is_too_long (length (b ∷ bs)) (used + length (b ∷ bs))) h)

over_whole : (b : Bool) (piece rest : List ℕ) (later : Lined) → (later.end ≡ whole → rest ≡ lines_text later.texts)
    → (if b then ended too_long else preceded piece later).end ≡ whole
    → piece ++ 10 ∷ rest ≡ lines_text (if b then ended too_long else preceded piece later).texts
over_whole true piece rest later go h = absurd cc
over_whole false piece rest later go h =
    ap (λ r. piece ++ 10 ∷ r) (go h) ∙ sym (append_assoc piece (10 ∷ []) (lines_text later.texts))

whole_from : (used : ℕ) (ps : List (List ℕ)) → (lined_from used ps).end ≡ whole
    → join_with_byte 10 ps ≡ lines_text (lined_from used ps).texts
whole_from used [] h = refl
whole_from used (piece ∷ []) h = last_whole used piece h
whole_from used (piece ∷ another ∷ more) h =
    over_whole (is_too_long (length piece) (used + length piece + 1)) piece (join_with_byte 10 (another ∷ more))
    (lined_from (used + length piece + 1) (another ∷ more)) (
    whole_from (used + length piece + 1) (another ∷ more)) h

pub whole_text : (bytes : List ℕ) → (lined bytes).end ≡ whole → bytes ≡ lines_text (lined bytes).texts
whole_text bytes h = sym (join_with_byte-slice_split 10 bytes) ∙ whole_from 0 (pieces bytes) h

-- ---- The end of an audit that finds every entry good

finish_so : (p : Progress) (end : End) (n : ℕ) → finish p end ≡ sound n → (p ≡ closed n) × (end ≡ whole)
finish_so (closed count) whole n h = grind (arith, h)
finish_so _ _ n h = absurd (grind (arith, h))

found_stays : (m : ℕ) (r : Rule) (texts : List (List ℕ)) (n : ℕ) → progress_from (found m r) texts ≡ closed n → ⊥
found_stays m r [] n h = cc
found_stays m r (t ∷ ts) n h = found_stays m r ts n h

closed_so : (count : ℕ) (texts : List (List ℕ)) (n : ℕ) → progress_from (closed count) texts ≡ closed n
    → (texts ≡ []) × (n ≡ count)
closed_so count [] n h = let same : count ≡ n = cc in (refl, sym same)
closed_so count (t ∷ ts) n h = absurd (found_stays (next (next count)) rule.Form ts n h)

-- ---- The lines of an audit that finds every entry good

-- The lines are entries and a last line that keep `log` legal, after `count` entries; `n` counts them all.
record AreSound (v : ℕ) (log : Journal) (count : ℕ) (texts : List (List ℕ)) (n : ℕ) : Type 0 where
  entries : List EntryLine
  end : ℕ
  in_time : end < 2 ^ 62
  text : lines_text texts ≡ flat_map (λ e. with_feed (entry_spelling v e)) entries ++ with_feed (end_spelling end)
  many : n ≡ counted count entries
  good : AllByRecursion (IsEntryLine v) entries
  legal : IsLegal (with_lines (map line_of entries) log)
  order : last_clock (with_lines (map line_of entries) log) ≤ end

pub lines_are : (xs : List Line) (log : Journal) → with_lines xs log ≡ reverse xs ++ log
lines_are [] log = refl
lines_are (x ∷ xs) log = lines_are xs (x ∷ log) ∙ sym (append_assoc (reverse xs) (x ∷ []) log)
    ∙ ap (λ ys. ys ++ log) (sym (reverse-append (x ∷ []) xs))

-- Round trips of entries and last lines, and good lines for good verdicts, are assumed.
module _ (reads : (v : ℕ) (text : List ℕ) (line : EntryLine) → entry_of v text ≡ Some line → IsEntryLine v line
    × (text ≡ entry_spelling v line))
    (end_reads : (text : List ℕ) (clock : ℕ) → end_of text ≡ Some clock → (clock < 2 ^ 62)
    × (text ≡ end_spelling clock))
    (ok : (log : Journal) (c actor : ℕ) (entry : Entry) → IsFit entry → verdict log (entry_line c actor entry) ≡ Ok tt
    → IsGood log (entry_line c actor entry)) where
  entry_sound : (v : ℕ) (log : Journal) (count : ℕ) (text : List ℕ) (texts : List (List ℕ)) (n : ℕ) (e : EntryLine)
      (x : Verdict) → entry_of v text ≡ Some e
      → verdict log (line_of e) ≡ x → IsLegal log
      → ((log' : Journal) (count' : ℕ) → IsLegal log' → progress_from (going v log' count') texts ≡ closed n
      → AreSound v log' count' texts n)
      → progress_from (after_entry v log count e x) texts ≡ closed n → AreSound v log count (text ∷ texts) n
  entry_sound v log count text texts n e (Ok u) read is legal later h =
      let its = reads v text e read in
      let s = later (line_of e ∷ log) (next count) (
        ok log e.clock e.by e.what (tellable_fit v e.what its.0.what) is,
        legal,
      ) h in
      record {
        entries = e ∷ s.entries;
        end = s.end;
        text =
            ap (λ t. with_feed t ++ lines_text texts) its.1
            ∙ ap (λ r. with_feed (entry_spelling v e) ++ r) s.text
            ∙ sym (append_assoc (with_feed (entry_spelling v e))
            (flat_map (λ x. with_feed (entry_spelling v x)) s.entries) (with_feed (end_spelling s.end)));
        many = s.many;
        in_time = s.in_time;
        good = (its.0, s.good);
        legal = s.legal;
        order = s.order;
      }
  entry_sound v log count text texts n e (Err r) read is legal later h = absurd (found_stays (next count) r texts n h)

  end_sound : (v : ℕ) (log : Journal) (count : ℕ) (text : List ℕ) (texts : List (List ℕ)) (n c : ℕ) (b : Bool)
      → end_of text ≡ Some c
      → nat_lt c (last_clock log) ≡ b → IsLegal log
      → progress_from (after_end count (if b then Err rule.Clock else Ok tt)) texts ≡ closed n
      → AreSound v log count (text ∷ texts) n
  end_sound v log count text texts n c true read is legal h = absurd (found_stays (next count) rule.Clock texts n h)
  end_sound v log count text texts n c false read is legal h =
      let so = closed_so count texts n h in
      record {
        entries = [];
        end = c;
        text = ap (λ ts. with_feed text ++ lines_text ts) so.0 ∙ append-nil (with_feed text)
            ∙ ap with_feed (end_reads text c read).1;
        many = so.1;
        in_time = (end_reads text c read).0;
        good = tt;
        legal = legal;
        order = not_past (last_clock log) c is;
      }

  other_sound : (v : ℕ) (log : Journal) (count : ℕ) (text : List ℕ) (texts : List (List ℕ)) (n : ℕ) (o : Option ℕ)
      → end_of text ≡ o → IsLegal log
      → progress_from (after_other log count o) texts ≡ closed n → AreSound v log count (text ∷ texts) n
  other_sound v log count text texts n None read legal h = absurd (found_stays (next count) rule.Form texts n h)
  other_sound v log count text texts n (Some c) read legal h =
      end_sound v log count text texts n c (nat_lt c (last_clock log)) read refl legal h

  line_sound : (v : ℕ) (log : Journal) (count : ℕ) (text : List ℕ) (texts : List (List ℕ)) (n : ℕ)
      (o : Option EntryLine) → entry_of v text ≡ o → IsLegal log
      → ((log' : Journal) (count' : ℕ) → IsLegal log' → progress_from (going v log' count') texts ≡ closed n
      → AreSound v log' count' texts n)
      → progress_from (after_line v log count text o) texts ≡ closed n → AreSound v log count (text ∷ texts) n
  line_sound v log count text texts n None read legal later h =
      other_sound v log count text texts n (end_of text) refl legal h
  line_sound v log count text texts n (Some e) read legal later h =
      entry_sound v log count text texts n e (verdict log (line_of e)) read refl legal later h

  sound_from : (v : ℕ) (log : Journal) (count : ℕ) (texts : List (List ℕ)) (n : ℕ) → IsLegal log
      → progress_from (going v log count) texts ≡ closed n
      → AreSound v log count texts n
  sound_from v log count [] n legal h = absurd cc
  sound_from v log count (t ∷ ts) n legal h = line_sound v log count t ts n (entry_of v t) refl legal
      (λ log' count' legal' h'. sound_from v log' count' ts n legal' h') h

  journal_by : (bytes : List ℕ) (n v : ℕ) (texts : List (List ℕ)) → IsVersion v → AreSound v [] 0 texts n
      → bytes ≡ heading_text v ++ lines_text texts
      → IsJournal bytes n
  journal_by bytes n v texts version s is =
      let its : with_lines (map line_of s.entries) [] ≡ journal_of s.entries =
      lines_are (map line_of s.entries) [] ∙ append-nil
      (reverse (map line_of s.entries)) in
      record {
        version = v;
        entries = s.entries;
        end = s.end;
        is_version = version;
        in_time = s.in_time;
        lines = s.good;
        legal = subst IsLegal its s.legal;
        order = subst (λ log. last_clock log ≤ s.end) its s.order;
        text = is ∙ ap (λ r. heading_text v ++ r) s.text;
        many = s.many;
      }

  first_by : (bytes : List ℕ) (n : ℕ) (t : List ℕ) (ts : List (List ℕ)) (b : Bool) → bytes_eq t heading ≡ b
      → bytes ≡ lines_text (t ∷ ts)
      → progress_from (if b then going VERSION [] 0 else step (going FIRST_VERSION [] 0) t) ts ≡ closed n
      → IsJournal bytes n
  first_by bytes n t ts true is text h =
      journal_by bytes n VERSION ts (inr refl) (sound_from VERSION [] 0 ts n tt h)
      (text ∙ ap (λ x. with_feed x ++ lines_text ts) ((bytes_eq-Decides t heading).0 is))
  first_by bytes n t ts false is text h =
      journal_by bytes n FIRST_VERSION (t ∷ ts) (inl refl) (sound_from FIRST_VERSION [] 0 (t ∷ ts) n tt h) text

  fresh_by : (bytes : List ℕ) (n : ℕ) (texts : List (List ℕ)) → bytes ≡ lines_text texts
      → progress_from fresh texts ≡ closed n → IsJournal bytes n
  fresh_by bytes n [] text h = absurd cc
  fresh_by bytes n (t ∷ ts) text h = first_by bytes n t ts (bytes_eq t heading) refl text h

  pub sound_text : (bytes : List ℕ) (n : ℕ) → audit_of bytes ≡ sound n → IsJournal bytes n
  sound_text bytes n h =
      let so = finish_so (progress (lined bytes).texts) (lined bytes).end n h in
      fresh_by bytes n (lined bytes).texts (whole_text bytes so.1) so.0
