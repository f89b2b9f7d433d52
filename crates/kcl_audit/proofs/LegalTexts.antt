-- An audit of a legal journal's text finds every entry good, unless a length is too great.
use Rattle.std.proofs.Common.{◌≡◌, ◌⊎◌, ℕ, ◌+◌, ◌≤◌, ◌<◌, ◌^◌, Bool, true, false, cond, List, [], ◌∷◌, ◌++◌, length}
use Rattle.std.proofs.Common.{map, Option, Some, None, refl, sym, ap, arith}
use Rattle.std.proofs.Common.{subst, ◌∙◌, inl, inr}
use Rattle.std.specs.Prelude.{◌≢◌, flat_map, if◌then◌else◌, Ok, Err}
use Rattle.std.specs.List.{AllByRecursion, onto_first}
use Rattle.std.specs.Str.{bytes_eq}
use Rattle.std.proofs.lemmas.List.{append-nil, append_assoc}
use Rattle.std.proofs.lemmas.List.Splits.{slice_split-cons_no, slice_split-cons_yes}
use Rattle.std.proofs.lemmas.Slice.Eq.{bytes_eq-Decides}
use Rattle.kds_defs.specs.Journal.{Journal, Line, with_lines}
use Rattle.kds_defs.specs.Legal.{IsGood, IsLegal, last_clock}
use Rattle.kds_lines.specs.Lines.{End, Lined, ended, is_feed, is_too_long, lined, lined_from, pieces, preceded}
use Rattle.kds_lines.specs.Lines.{too_long}
use Rattle.kcl_script_fields.specs.Fields.{Lacks}
use Rattle.kcl_journal.specs.declared.line.EntryLine.{EntryLine}
use Rattle.kcl_journal.specs.declared.line.TheConstants.{FIRST_VERSION, VERSION}
use Rattle.kcl_journal.specs.Entries.{IsVersion, end_of, end_spelling, entry_of, entry_spelling, heading}
use Rattle.kcl_journal.specs.Ranges.{IsEntryLine}
use Rattle.kcl_audit_streams.specs.declared.rule.Rule.TheVariants as rule
use Rattle.kcl_audit_streams.specs.Verdict.{verdict}
use Rattle.kcl_audit_judge.proofs.GoodLines.{not_below}
use Rattle.kcl_audit.specs.Progress.{AuditEnd, Progress, after_end, after_entry, after_line, after_other, audit_of}
use Rattle.kcl_audit.specs.Progress.{closed, finish, found}
use Rattle.kcl_audit.specs.Progress.{fresh, going, line_of, line_step, next, over, progress, progress_from, sound, step}
use Rattle.kcl_audit.specs.Text.{IsJournal, counted, entries_text, journal_of, with_feed}
use Rattle.kcl_audit.proofs.SoundTexts.{lines_are}

-- ---- The first line of the bytes

cut_by : (c : Bool) (b : ℕ) (ps : List (List ℕ)) → cond c ([] ∷ ps) (onto_first b ps) ≡ [] → ⊥
cut_by true b ps h = cc
cut_by false b [] h = cc
cut_by false b (q ∷ qs) h = cc

pieces_there : (bytes : List ℕ) → pieces bytes ≡ [] → ⊥
pieces_there [] h = cc
pieces_there (b ∷ bs) h = cut_by (is_feed b) b (pieces bs) h

pieces_line : (text z : List ℕ) → Lacks 10 text → pieces (text ++ 10 ∷ z) ≡ text ∷ pieces z
pieces_line [] z lacks = slice_split-cons_yes is_feed 10 z refl
pieces_line (b ∷ bs) z lacks = slice_split-cons_no is_feed b (bs ++ 10 ∷ z) lacks.0
    ∙ ap (onto_first b) (pieces_line bs z lacks.1)

lined_cut : (used : ℕ) (text : List ℕ) (ps : List (List ℕ)) → (ps ≡ [] → ⊥)
    → lined_from used (text ∷ ps)
    ≡ (if is_too_long (length text) (used + length text + 1) then ended too_long else preceded text
    (lined_from (used + length text + 1) ps))
lined_cut used text [] there = absurd (there refl)
lined_cut used text (q ∷ qs) there = refl

lined_line : (used : ℕ) (text z : List ℕ) → Lacks 10 text
    → lined_from used (pieces (text ++ 10 ∷ z))
    ≡ (if is_too_long (length text) (used + length text + 1) then ended too_long else preceded text
    (lined_from (used + length text + 1) (pieces z)))
lined_line used text z lacks =
    ap (lined_from used) (pieces_line text z lacks) ∙ lined_cut used text (pieces z) (pieces_there z)

-- ---- The result of an audit, from a progress on

-- The result of an audit from the progress `p` on, for the lines and end of `l`.
abbrev ends : Progress → Lined → AuditEnd
ends p l = finish (progress_from p l.texts) l.end

-- All `n` entries are good, or a length is too great.
abbrev IsFine : ℕ → AuditEnd → Type 0
IsFine n x = (x ≡ over) ⊎ (x ≡ sound n)

-- From `p` on, an audit of the bytes is fine, however many bytes came before.
abbrev Ends : Progress → List ℕ → ℕ → Type 0
Ends p bytes n = (used : ℕ) → IsFine n (ends p (lined_from used (pieces bytes)))

past_by : (b : Bool) (p : Progress) (text : List ℕ) (l : Lined) (n : ℕ) → finish p too_long ≡ over
    → IsFine n (ends (step p text) l)
    → IsFine n (ends p (if b then ended too_long else preceded text l))
past_by true p text l n stops later = inl stops
past_by false p text l n stops later = later

past : (p : Progress) (text z : List ℕ) (n : ℕ) → finish p too_long ≡ over → Lacks 10 text → Ends (step p text) z n
    → Ends p (text ++ 10 ∷ z) n
past p text z n stops lacks later used =
    let more = used + length text + 1 in
    subst (λ l. IsFine n (ends p l)) (sym (lined_line used text z lacks)) (
    past_by (is_too_long (length text) more) p text (lined_from more (pieces z)) n stops (later more))

finish_over : (p : Progress) (end : End) → finish p end ≡ over → end ≡ too_long
finish_over (found n r) end h = absurd cc
finish_over _ end h = grind (arith, h)

-- The result `over` comes only from bytes that end with a length that is too great.
pub over_so : (bytes : List ℕ) → audit_of bytes ≡ over → (lined bytes).end ≡ too_long
over_so bytes h = finish_over (progress (lined bytes).texts) (lined bytes).end h

fine_so : (n : ℕ) (x : AuditEnd) → IsFine n x → x ≢ over → x ≡ sound n
fine_so n x (inl is) not_over = absurd (not_over is)
fine_so n x (inr is) not_over = is

-- ---- The lines of a legal journal

legal_before : (xs : List Line) (log : Journal) → IsLegal (with_lines xs log) → IsLegal log
legal_before [] log legal = legal
legal_before (x ∷ xs) log legal = (legal_before xs (x ∷ log) legal).1

good_first : (x : Line) (xs : List Line) (log : Journal) → IsLegal (with_lines (x ∷ xs) log) → IsGood log x
good_first x xs log legal = (legal_before xs (x ∷ log) legal).0

-- The text is an entry or a last line, and so no heading.
abbrev IsTold : ℕ → List ℕ → Type 0
IsTold v text = entry_of v text ≡ None → end_of text ≡ None → ⊥

is_there : {A : Type 0} (o : Option A) (x : A) → o ≡ Some x → o ≡ None → ⊥
is_there None x is none = cc
is_there (Some y) x is none = cc

-- The text of a journal without its heading.
abbrev rest_text : ℕ → List EntryLine → ℕ → List ℕ
rest_text v es end = flat_map (λ e. with_feed (entry_spelling v e)) es ++ with_feed (end_spelling end)

rest_cons : (v : ℕ) (e : EntryLine) (es : List EntryLine) (end : ℕ)
    → rest_text v (e ∷ es) end ≡ entry_spelling v e ++ 10 ∷ rest_text v es end
rest_cons v e es end =
    append_assoc (with_feed (entry_spelling v e)) (flat_map (λ x. with_feed (entry_spelling v x)) es)
    (with_feed (end_spelling end))
    ∙ append_assoc (entry_spelling v e) (10 ∷ []) (rest_text v es end)

-- The laws about the texts of entries and last lines, and about good lines' verdicts, are assumed.
module _ (again : (v : ℕ) (line : EntryLine) → IsEntryLine v line → entry_of v (entry_spelling v line) ≡ Some line)
    (end_again : (clock : ℕ) → clock < 2 ^ 62 → end_of (end_spelling clock) ≡ Some clock)
    (apart : (v : ℕ) (text : List ℕ) (clock : ℕ) → end_of text ≡ Some clock → entry_of v text ≡ None)
    (no_heading : (v : ℕ) → (entry_of v heading ≡ None) × (end_of heading ≡ None))
    (one_line : (v : ℕ) (line : EntryLine) → IsEntryLine v line → Lacks 10 (entry_spelling v line))
    (end_line : (clock : ℕ) → clock < 2 ^ 62 → Lacks 10 (end_spelling clock))
    (good : (log : Journal) (line : Line) → IsGood log line → verdict log line ≡ Ok tt) where
  entry_step : (v : ℕ) (log : Journal) (count : ℕ) (e : EntryLine) → IsEntryLine v e → IsGood log (line_of e)
      → line_step v log count (entry_spelling v e) ≡ going v (line_of e ∷ log) (next count)
  entry_step v log count e is its = ap (after_line v log count (entry_spelling v e)) (again v e is)
      ∙ ap (after_entry v log count e) (good log (line_of e) its)

  end_step : (v : ℕ) (log : Journal) (count end : ℕ) → end < 2 ^ 62 → last_clock log ≤ end
      → line_step v log count (end_spelling end) ≡ closed count
  end_step v log count end in_time order =
      ap (after_line v log count (end_spelling end)) (apart v (end_spelling end) end (end_again end in_time))
      ∙ ap (after_other log count) (end_again end in_time)
      ∙ ap (λ b. after_end count (if b then Err rule.Clock else Ok tt)) (not_below (last_clock log) end order)

  rest_ends : (v : ℕ) (log : Journal) (count : ℕ) (es : List EntryLine) (end : ℕ) (p : Progress) → end < 2 ^ 62
      → AllByRecursion (IsEntryLine v) es
      → IsLegal (with_lines (map line_of es) log) → last_clock (with_lines (map line_of es) log) ≤ end
      → finish p too_long ≡ over → ((text : List ℕ) → IsTold v text → step p text ≡ line_step v log count text)
      → Ends p (rest_text v es end) (counted count es)
  rest_ends v log count [] end p in_time lines legal order stops steps =
      let read = end_again end in_time in
      let goes = steps (end_spelling end) (λ no none. is_there (end_of (end_spelling end)) end read none)
      ∙ end_step v log count end in_time order in
      past p (end_spelling end) [] count stops (end_line end in_time)
      (subst (λ q. Ends q [] count) (sym goes) (λ used. inr refl))
  rest_ends v log count (e ∷ es) end p in_time lines legal order stops steps =
      let read = again v e lines.0 in
      let goes =
      steps (entry_spelling v e) (λ no none. is_there (entry_of v (entry_spelling v e)) e read no)
      ∙ entry_step v log count e lines.0 (good_first (line_of e) (map line_of es) log legal) in
      let later = rest_ends v (line_of e ∷ log) (next count) es end (going v (line_of e ∷ log) (next count))
      in_time lines.1 legal order refl
      (λ text is. refl) in
      subst (λ z. Ends p z (counted (next count) es)) (sym (rest_cons v e es end)) (
      past p (entry_spelling v e) (rest_text v es end) (counted (next count) es) stops (one_line v e lines.0)
      (subst (λ q. Ends q (rest_text v es end) (counted (next count) es)) (sym goes) later))

  fresh_by : (text : List ℕ) (b : Bool) → bytes_eq text heading ≡ b → IsTold FIRST_VERSION text
      → (if b then going VERSION [] 0 else line_step FIRST_VERSION [] 0 text) ≡ line_step FIRST_VERSION [] 0 text
  fresh_by text true is is_told =
      let same = (bytes_eq-Decides text heading).0 is in
      absurd (is_told (ap (entry_of FIRST_VERSION) same ∙ (no_heading FIRST_VERSION).0) (ap end_of same
      ∙ (no_heading FIRST_VERSION).1))
  fresh_by text false is is_told = refl

  first_ends : (es : List EntryLine) (end : ℕ) → end < 2 ^ 62 → AllByRecursion (IsEntryLine FIRST_VERSION) es
      → IsLegal (with_lines (map line_of es) []) → last_clock (with_lines (map line_of es) []) ≤ end
      → Ends fresh (entries_text FIRST_VERSION es end) (counted 0 es)
  first_ends es end in_time lines legal order =
      rest_ends FIRST_VERSION [] 0 es end fresh in_time lines legal order refl
      (λ text is_told. fresh_by text (bytes_eq text heading) refl is_told)

  second_ends : (es : List EntryLine) (end : ℕ) → end < 2 ^ 62 → AllByRecursion (IsEntryLine VERSION) es
      → IsLegal (with_lines (map line_of es) []) → last_clock (with_lines (map line_of es) []) ≤ end
      → Ends fresh (entries_text VERSION es end) (counted 0 es)
  second_ends es end in_time lines legal order =
      let rest = rest_text VERSION es end in
      let later = rest_ends VERSION [] 0 es end (going VERSION [] 0) in_time lines legal order refl
      (λ text is_told. refl) in
      let lacks : Lacks 10 heading = (refl, (refl, (refl, (refl, (refl, (refl, (refl, (refl, (refl, tt))))))))) in
      subst (λ z. Ends fresh z (counted 0 es)) (sym (append_assoc heading (10 ∷ []) rest))
      (past fresh heading rest (counted 0 es) refl lacks later)

  version_ends : (v : ℕ) (es : List EntryLine) (end : ℕ) → IsVersion v → end < 2 ^ 62
      → AllByRecursion (IsEntryLine v) es
      → IsLegal (with_lines (map line_of es) []) → last_clock (with_lines (map line_of es) []) ≤ end
      → Ends fresh (entries_text v es end) (counted 0 es)
  version_ends v es end (inl is) in_time lines legal order =
      let these = subst (λ w. AllByRecursion (IsEntryLine w) es) is lines in
      subst (λ w. Ends fresh (entries_text w es end) (counted 0 es)) (sym is)
      (first_ends es end in_time these legal order)
  version_ends v es end (inr is) in_time lines legal order =
      let these = subst (λ w. AllByRecursion (IsEntryLine w) es) is lines in
      subst (λ w. Ends fresh (entries_text w es end) (counted 0 es)) (sym is)
      (second_ends es end in_time these legal order)

  pub legal_text : (bytes : List ℕ) (n : ℕ) → IsJournal bytes n → audit_of bytes ≢ over → audit_of bytes ≡ sound n
  legal_text bytes n j not_over =
      let its : journal_of j.entries ≡ with_lines (map line_of j.entries) [] =
      sym (lines_are (map line_of j.entries) [] ∙ append-nil (journal_of j.entries)) in
      let fine = version_ends j.version j.entries j.end j.is_version j.in_time j.lines (subst IsLegal its j.legal)
      (subst (λ log. last_clock log ≤ j.end) its j.order) 0 in
      fine_so n (audit_of bytes) (subst (λ z. IsFine n (audit_of z)) (sym j.text)
      (subst (λ m. IsFine m (audit_of (entries_text j.version j.entries j.end))) (sym j.many) fine)) not_over
