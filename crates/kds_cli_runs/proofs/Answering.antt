-- The status of a replay's outcome is right for what was written and run.
use Rattle.std.proofs.Common.{◌≡◌, ℕ, ◌+◌, List, [], ◌∷◌, ◌++◌, length, Option, Some, None, refl, sym, ap, ◌∙◌, subst}
use Rattle.std.proofs.Common.{inl, inr}
use Rattle.std.proofs.lemmas.List.{append_assoc, append-nil}
use Rattle.std.specs.Io.KnownBytes.{Appends}
use Rattle.std.specs.Option.{IfSome}
use Rattle.kds_defs.specs.declared.command.Turn.{Turn}
use Rattle.kds_defs.specs.Histories.{journal, clock}
use Rattle.kds_defs.specs.Lawful.{IsHistory}
use Rattle.kds_defs.specs.Safe.{IsSafe}
use Rattle.kds_ends.specs.Causes.{AppendsFront}
use Rattle.kds_ends.specs.declared.status.Status.{Status}
use Rattle.kds_ends.specs.declared.status.Status.TheVariants as status
use Rattle.kds_lines.specs.Lines as input
use Rattle.kds_lines.specs.Lines.{End, lined}
use Rattle.kds_lines.specs.Taking.{GoesOn}
use Rattle.kds_lines.specs.Telling.{HasTaken, Told}
use Rattle.kds_lines.specs.declared.outcome.Outcome.{Outcome}
use Rattle.kds_lines.specs.declared.outcome.Outcome.TheVariants as outcome
use Rattle.kcl_script.specs.declared.line.Line.{Line}
use Rattle.kcl_script.specs.Line.{line_of}
use Rattle.kcl_sim.specs.Output.{Ran, fresh, outputs, with_schedule}
use Rattle.kcl_sim.specs.Schedule.{Ending, whole, too_long, bad_line, judge_end, judge_form, judge, judged, preceded_by}
use Rattle.kcl_sim.specs.Schedule.{ending}
use Rattle.kcl_sim.specs.Serving.{AreAllServed}
use Rattle.kcl_sim.specs.Standing.{HasRunPart, SimValue}
use Rattle.kcl_sim.specs.Taking.{judged_texts, Broke, Took, IsNoLine}
use Rattle.kds_cli_runs.specs.Answered.{status_of, AreHandedOn, HasMade, Remains, RanBy, RanSafely}
use Rattle.kds_cli_runs.specs.Told.{TellsBy, IsReplayStatus}

-- A premise: the judgement of texts goes on after texts that all are lines.
abbrev pub JudgesOn : Type 0
JudgesOn = (texts more : List (List ℕ)) (end : End) → (judged_texts texts).ending ≡ whole
    → judge 0 (texts ++ more) end ≡ preceded_by (judged_texts texts).lines (judge (length texts) more end)

-- A premise: the output for lines is a prefix of the output for these and more.
abbrev pub OutputsOn : (List Line → List ℕ) → Type 0
OutputsOn output = (ls ks : List Line) → GoesOn (output ls) (output (ls ++ ks))

-- `OutputsOn` for answers.
pub outputs_grow : ((ran : Ran) (ls ks : List Line)
    → outputs ran (ls ++ ks) ≡ outputs ran ls ++ outputs (with_schedule ran ls) ks) → OutputsOn (outputs fresh)
outputs_grow is_on ls ks = (outputs (with_schedule fresh ls) ks, is_on fresh ls ks)

-- ---- Memory ran out

all_lines : (s : SimValue) (texts rest : List (List ℕ))
    → HasTaken outcome.Memory (λ t. Took s t) (λ t x. Broke s t x) texts rest
    → (judged_texts texts).ending ≡ whole
all_lines s texts rest (inl t) = t.are_lines
all_lines s texts rest (inr part) = part.3.are_lines

next_line : (n : ℕ) (rest later : List (List ℕ)) (text : List ℕ) (line : Line) (end : End) → rest ≡ text ∷ later
    → line_of text ≡ Some line
    → (judge n rest end).lines ≡ line ∷ (judge (n + 1) later end).lines
next_line n rest later text line end is some =
    ap (λ r. (judge n r end).lines) is ∙ ap (λ o. (judge_form n o (judge (n + 1) later end)).lines) some

made_broken : (s : SimValue) (texts rest : List (List ℕ)) (end : End)
    → HasTaken outcome.Memory (λ t. Took s t) (λ t x. Broke s t x) texts rest
    → HasMade status.Memory (judged_texts texts).lines (judge (length texts) rest end).lines s
made_broken s texts rest end (inl t) = inl t.made
made_broken s texts rest end (inr part) =
    let b = part.3 in
    inr (
      b.line,
      (judge (length texts + 1) part.1 end).lines,
      next_line (length texts) rest part.1 part.0 b.line end part.2 b.is,
      b.part,
    )

module _ (output : List Line → List ℕ) (more : JudgesOn) (grows : OutputsOn output) where
  -- The output for the schedule's bytes.
  abbrev shown : List ℕ → List ℕ
  shown bytes = output (judged bytes).lines

  -- The output for the texts as lines.
  abbrev texts_shown : List (List ℕ) → List ℕ
  texts_shown texts = output (judged_texts texts).lines

  -- The reading ended with an outcome, bytes left, and the sink's bytes before and after.
  abbrev pub Reads : Outcome → List ℕ → Option (List ℕ) → Option (List ℕ) → Option (List ℕ) → SimValue → Type 0
  Reads o bytes left held now s = Told o (λ t. Took s t) (λ t x. Broke s t x) IsNoLine texts_shown bytes left held now

  after : (bytes : List ℕ) (texts rest : List (List ℕ)) → (judged_texts texts).ending ≡ whole
      → (lined bytes).texts ≡ texts ++ rest
      → judged bytes ≡ preceded_by (judged_texts texts).lines (judge (length texts) rest (lined bytes).end)
  after bytes texts rest are parts =
      ap (λ ts. judge 0 ts (lined bytes).end) parts ∙ more texts rest (lined bytes).end are

  no_more : (bytes : List ℕ) (texts rest : List (List ℕ)) (e : Ending) → (judged_texts texts).ending ≡ whole
      → (lined bytes).texts ≡ texts ++ rest
      → judge (length texts) rest (lined bytes).end ≡ record { lines = []; ending = e }
      → judged bytes ≡ record { lines = (judged_texts texts).lines; ending = e }
  no_more bytes texts rest e are parts decides =
      after bytes texts rest are parts ∙ ap (preceded_by (judged_texts texts).lines) decides
      ∙ ap (λ ls. record { lines = ls; ending = e }) (append-nil _)

  at_the_end : (n : ℕ) (rest : List (List ℕ)) (end e : End) → rest ≡ [] → end ≡ e
      → judge n rest end ≡ record { lines = []; ending = judge_end n e }
  at_the_end n rest end e none is = ap (λ r. judge n r end) none ∙ ap (judge n []) is

  at_no_line : (n : ℕ) (rest later : List (List ℕ)) (t : List ℕ) (end : End) → rest ≡ t ∷ later → line_of t ≡ None
      → judge n rest end ≡ record { lines = []; ending = bad_line (n + 1) }
  at_no_line n rest later t end is none =
      ap (λ r. judge n r end) is ∙ ap (λ o. judge_form n o (judge (n + 1) later end)) none

  all_written : (all front back : List ℕ) (held now : Option (List ℕ)) → all ≡ front ++ back → back ≡ []
      → Appends held now front → Appends held now all
  all_written all front back held now parts none w =
      subst (λ (z : List ℕ). Appends held now z) (sym (parts ∙ ap (λ z. front ++ z) none ∙ append-nil front)) w

  decided : (bytes : List ℕ) (ls : List Line) (e : Ending) (front back : List ℕ) (held now : Option (List ℕ))
      → judged bytes ≡ record { lines = ls; ending = e }
      → output ls ≡ front ++ back → back ≡ [] → Appends held now front → (ending bytes ≡ e)
      × Appends held now (shown bytes)
  decided bytes ls e front back held now is parts none w = (
    ap (λ j. j.ending) is,
    subst (λ (z : List ℕ). Appends held now z) (sym (ap (λ j. output j.lines) is))
        (all_written (output ls) front back held now parts none w),
  )

  front_written : (bytes : List ℕ) (ls later : List Line) (front back : List ℕ) (held now : Option (List ℕ))
      → (judged bytes).lines ≡ ls ++ later
      → output ls ≡ front ++ back → Appends held now front → AppendsFront held now (shown bytes)
  front_written bytes ls later front back held now lines parts w =
      let g = grows ls later in
      (front, back ++ g.0, ap output lines ∙ g.1 ∙ ap (λ z. z ++ g.0) parts ∙ append_assoc front back g.0, w)

  pub tells : (o : Outcome) (bytes : List ℕ) (left held now : Option (List ℕ)) (s : SimValue)
      → Reads o bytes left held now s
      → TellsBy shown (status_of o) bytes left held now
  tells outcome.Whole bytes left held now s t =
      decided bytes (judged_texts t.texts).lines whole t.front t.back held now
      (no_more bytes t.texts t.rest whole t.taken.are_lines t.parts
      (at_the_end _ t.rest (lined bytes).end input.whole t.because.1 t.because.0)) t.output_is t.unwritten
      t.written
  tells (outcome.Unfinished n) bytes left held now s t =
      let d = decided bytes (judged_texts t.texts).lines (bad_line (length t.texts + 1)) t.front t.back held now
      (no_more bytes t.texts t.rest _ t.taken.are_lines t.parts
      (at_the_end _ t.rest (lined bytes).end input.unfinished t.because.1 t.because.0)) t.output_is t.unwritten
      t.written in
      (d.0 ∙ ap (λ k. bad_line k) (sym t.because.2), d.1)
  tells outcome.TooLong bytes left held now s t =
      decided bytes (judged_texts t.texts).lines too_long t.front t.back held now
      (no_more bytes t.texts t.rest too_long t.taken.are_lines t.parts
      (at_the_end _ t.rest (lined bytes).end input.too_long t.because.1 t.because.0)) t.output_is t.unwritten
      t.written
  tells (outcome.Stopped n) bytes left held now s t =
      let d = decided bytes (judged_texts t.texts).lines (bad_line (length t.texts + 1)) t.front t.back held now
      (no_more bytes t.texts t.rest _ t.taken.are_lines t.parts
      (at_no_line _ t.rest t.because.1 t.because.0 (lined bytes).end t.because.2 t.because.3))
      t.output_is t.unwritten t.written in
      (d.0 ∙ ap (λ k. bad_line k) (sym t.because.4), d.1)
  tells outcome.Read bytes left held now s t =
      let b = t.because in
      let d = decided b.0 (judged_texts t.texts).lines _ t.front t.back held now
      (no_more b.0 t.texts [] _ t.taken.are_lines (sym b.4 ∙ sym (append-nil t.texts)) refl) t.output_is t.unwritten
      t.written in
      (b.0, b.1, b.2, b.3, d.1)
  tells outcome.Write bytes left held now s t =
      front_written bytes (judged_texts t.texts).lines _ t.front t.back held now
      (ap (λ j. j.lines) (after bytes t.texts t.rest t.taken.are_lines t.parts)) t.output_is t.written
  tells outcome.Memory bytes left held now s t =
      front_written bytes (judged_texts t.texts).lines _ t.front t.back held now
      (ap (λ j. j.lines) (after bytes t.texts t.rest (all_lines s t.texts t.rest t.taken) t.parts))
      t.output_is t.written

  ran_with : (o : Outcome) (bytes : List ℕ) (left held now : Option (List ℕ)) (s : SimValue)
      (t : Reads o bytes left held now s)
      → (judged_texts t.texts).ending ≡ whole
      → HasMade (status_of o) (judged_texts t.texts).lines (judge (length t.texts) t.rest (lined bytes).end).lines s
      → Remains (status_of o) (judge (length t.texts) t.rest (lined bytes).end).lines t.back
      → RanBy output (status_of o) bytes held now s
  ran_with o bytes left held now s t are made remains = record {
    lines = (judged_texts t.texts).lines;
    later = (judge (length t.texts) t.rest (lined bytes).end).lines;
    parts = ap (λ j. j.lines) (after bytes t.texts t.rest are t.parts);
    made = made;
    front = t.front;
    back = t.back;
    output_is = t.output_is;
    written = t.written;
    remains = remains;
  }

  pub ran_so : (o : Outcome) (bytes : List ℕ) (left held now : Option (List ℕ)) (s : SimValue)
      → Reads o bytes left held now s
      → RanBy output (status_of o) bytes held now s
  ran_so outcome.Whole bytes left held now s t =
      ran_with outcome.Whole bytes left held now s t t.taken.are_lines t.taken.made (
        ap (λ j. j.lines) (at_the_end (length t.texts) t.rest (lined bytes).end input.whole t.because.1 t.because.0),
        t.unwritten,
      )
  ran_so (outcome.Unfinished n) bytes left held now s t =
      ran_with (outcome.Unfinished n) bytes left held now s t t.taken.are_lines t.taken.made (
        ap (λ j. j.lines) (at_the_end (length t.texts) t.rest (lined bytes).end input.unfinished t.because.1
            t.because.0),
        t.unwritten,
      )
  ran_so outcome.TooLong bytes left held now s t =
      ran_with outcome.TooLong bytes left held now s t t.taken.are_lines t.taken.made (
        ap (λ j. j.lines) (at_the_end (length t.texts) t.rest (lined bytes).end input.too_long t.because.1 t.because.0),
        t.unwritten,
      )
  ran_so (outcome.Stopped n) bytes left held now s t =
      ran_with (outcome.Stopped n) bytes left held now s t t.taken.are_lines t.taken.made (
        ap (λ j. j.lines) (at_no_line (length t.texts) t.rest t.because.1 t.because.0 (lined bytes).end t.because.2
            t.because.3),
        t.unwritten,
      )
  ran_so outcome.Read bytes left held now s t =
      ran_with outcome.Read bytes left held now s t t.taken.are_lines t.taken.made t.unwritten
  ran_so outcome.Write bytes left held now s t =
      ran_with outcome.Write bytes left held now s t t.taken.are_lines t.taken.made tt
  ran_so outcome.Memory bytes left held now s t =
      ran_with outcome.Memory bytes left held now s t (all_lines s t.texts t.rest t.taken)
      (made_broken s t.texts t.rest (lined bytes).end t.taken) tt

  pub tells_all : (o : Outcome) (all left held now : Option (List ℕ)) (s : SimValue)
      → IfSome all (λ bytes. Reads o bytes left held now s)
      → IfSome all (λ bytes. TellsBy shown (status_of o) bytes left held now)
  tells_all o None left held now s t = tt
  tells_all o (Some bytes) left held now s t = tells o bytes left held now s t

  pub ran_all : (o : Outcome) (all left held now : Option (List ℕ)) (s : SimValue)
      → IfSome all (λ bytes. Reads o bytes left held now s)
      → IfSome all (λ bytes. RanBy output (status_of o) bytes held now s)
  ran_all o None left held now s t = tt
  ran_all o (Some bytes) left held now s t = ran_so o bytes left held now s t

pub replays : (o : Outcome) → IsReplayStatus (status_of o)
replays outcome.Whole = tt
replays _ = tt

-- A premise: turns made within a line before memory ran out are lawful.
abbrev pub LawfulPart : Type 0
LawfulPart = (bytes : List ℕ) (lines later : List Line) (line : Line) (s : SimValue)
    → (judged bytes).lines ≡ lines ++ line ∷ later
    → HasRunPart s (with_schedule fresh lines) line → IsHistory s.history

history_made : (status : Status) (bytes : List ℕ) (lines later : List Line) (s : SimValue)
    → ((bytes : List ℕ) (lines later : List Line) → (judged bytes).lines ≡ lines ++ later
    → IsHistory (with_schedule fresh lines).history)
    → LawfulPart
    → (judged bytes).lines ≡ lines ++ later → HasMade status lines later s → IsHistory s.history
history_made status.Memory bytes lines later s lawful part parts (inl made) =
    subst IsHistory (sym made.history) (lawful bytes lines later parts)
history_made status.Memory bytes lines later s lawful part parts (inr made) =
    part bytes lines made.1 made.0 s (parts ∙ ap (λ z. lines ++ z) made.2) made.3
history_made _ bytes lines later s lawful part parts made =
    subst IsHistory (sym made.history) (lawful bytes lines later parts)

-- Premises on each schedule: lawful turns, safe states, served processors, and hand-offs that hold.
pub record Laws : Type 0 where
  pub lawful : (bytes : List ℕ) (lines later : List Line) → (judged bytes).lines ≡ lines ++ later
      → IsHistory (with_schedule fresh lines).history
  pub part : LawfulPart
  pub safe : (h : List Turn) → IsHistory h → IsSafe (journal h) (clock h)
  pub served : (bytes : List ℕ) (lines later : List Line) → (judged bytes).lines ≡ lines ++ later
      → AreAllServed (with_schedule fresh lines)
  pub handed : (bytes : List ℕ) → AreHandedOn bytes

pub run_safely : (output : List Line → List ℕ) (status : Status) (bytes : List ℕ) (held now : Option (List ℕ))
    (s : SimValue)
    → Laws → RanBy output status bytes held now s → RanSafely output status bytes held now
run_safely output status bytes held now s laws so = record {
  sim = s;
  so = so;
  safe = laws.safe s.history (history_made status bytes so.lines so.later s laws.lawful laws.part so.parts so.made);
  served = laws.served bytes so.lines so.later so.parts;
  handed = laws.handed bytes so.lines so.later so.parts;
}

pub ran_safely : (output : List Line → List ℕ) (status : Status) (all held now : Option (List ℕ)) (s : SimValue)
    → Laws → IfSome all (λ bytes. RanBy output status bytes held now s)
    → IfSome all (λ bytes. RanSafely output status bytes held now)
ran_safely output status None held now s laws so = tt
ran_safely output status (Some bytes) held now s laws so = run_safely output status bytes held now s laws so
