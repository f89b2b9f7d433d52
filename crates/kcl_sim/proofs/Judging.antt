-- A schedule's texts are judged and run one after another; what holds after some lines goes on to the next.
use Rattle.std.proofs.Common.{◌≡◌, ℕ, ◌+◌, Bool, true, false, List, [], ◌∷◌, ◌++◌, length, Option, Some, None, refl}
use Rattle.std.proofs.Common.{sym, ap, subst, ◌∙◌, arith, inl, inr}
use Rattle.std.proofs.lemmas.List.{append_assoc, append-nil}
use Rattle.kds_lines.specs.Lines as input
use Rattle.kds_lines.specs.Lines.{End}
use Rattle.kds_lines.specs.Taking.{Goes, Breaks, GoesOn as TextGoesOn}
use Rattle.kds_defs.specs.declared.command.Turn.{Turn}
use Rattle.kcl_script.specs.declared.line.Line.{Line}
use Rattle.kcl_script.specs.Line.{line_of}
use Rattle.kcl_sim.proofs.MoreTurns.{line_grows}
use Rattle.kcl_sim.specs.Output.{Ran, fresh, with_line, output_of, with_schedule, outputs}
use Rattle.kcl_sim.specs.Schedule.{whole, judge_form, judge, preceded_by}
use Rattle.kcl_sim.specs.Standing.{IsTold, MayHaveBroken, RunsSo, SimValue, Tells}
use Rattle.kcl_sim.specs.Taking.{Broke, judged_texts, told_texts, Took, texts_output}

pub outputs-append : (ran : Ran) (ls ks : List Line)
    → outputs ran (ls ++ ks) ≡ outputs ran ls ++ outputs (with_schedule ran ls) ks
outputs-append ran [] ks = refl
outputs-append ran (l ∷ ls) ks =
    ap (λ z. output_of ran l ++ z) (outputs-append (with_line ran l) ls ks)
    ∙ sym (append_assoc (output_of ran l) (outputs (with_line ran l) ls) _)

pub with_schedule-append : (ran : Ran) (ls ks : List Line)
    → with_schedule ran (ls ++ ks) ≡ with_schedule (with_schedule ran ls) ks
with_schedule-append ran [] ks = refl
with_schedule-append ran (l ∷ ls) ks = with_schedule-append (with_line ran l) ls ks

judge_form_more : (count : ℕ) (texts more : List (List ℕ)) (o : Option Line) (end : End)
    → ((judge (count + 1) texts input.whole).ending ≡ whole
    → judge (count + 1) (texts ++ more) end
    ≡ preceded_by (judge (count + 1) texts input.whole).lines (judge (count + 1 + length texts) more end))
    → (judge_form count o (judge (count + 1) texts input.whole)).ending ≡ whole
    → judge_form count o (judge (count + 1) (texts ++ more) end)
    ≡ preceded_by (judge_form count o (judge (count + 1) texts input.whole)).lines
    (judge (count + 1 + length texts) more end)
judge_form_more count texts more None end later are = absurd (cc)
judge_form_more count texts more (Some l) end later are =
    ap (λ j. record { lines = l ∷ j.lines; ending = j.ending }) (later are)

judge_from : (count : ℕ) (texts more : List (List ℕ)) (end : End) → (judge count texts input.whole).ending ≡ whole
    → judge count (texts ++ more) end
    ≡ preceded_by (judge count texts input.whole).lines (judge (count + length texts) more end)
judge_from count [] more end are = let none : count + 0 ≡ count = omega arith in rw none refl
judge_from count (text ∷ texts) more end are =
    let next : count + length (text ∷ texts) ≡ count + 1 + length texts = omega arith in
    rw next (judge_form_more count texts more (line_of text) end (judge_from (count + 1) texts more end) are)

-- If all of `texts` are lines, the judgement of `texts ++ more` is `more`'s judgement after these lines.
pub judge_more : (texts more : List (List ℕ)) (end : End) → (judged_texts texts).ending ≡ whole
    → judge 0 (texts ++ more) end ≡ preceded_by (judged_texts texts).lines (judge (length texts) more end)
judge_more texts more end are = let none : 0 + length texts ≡ length texts = omega arith in
    rw none at (judge_from 0 texts more end are)

one_more : (texts : List (List ℕ)) (text : List ℕ) (l : Line) → (judged_texts texts).ending ≡ whole
    → line_of text ≡ Some l
    → judged_texts (texts ++ text ∷ []) ≡ record { lines = (judged_texts texts).lines ++ l ∷ []; ending = whole }
one_more texts text l are is =
    judge_more texts (text ∷ []) input.whole are
    ∙ ap (λ o. preceded_by (judged_texts texts).lines
    (judge_form (length texts) o (judge (length texts + 1) [] input.whole))) is

pub took_more : (old new : SimValue) (texts : List (List ℕ)) (text : List ℕ) (l : Line) → Took old texts
    → line_of text ≡ Some l → RunsSo new (with_line (with_schedule fresh (judged_texts texts).lines) l)
    → Took new (texts ++ text ∷ [])
took_more old new texts text l t is made =
    let j = one_more texts text l t.are_lines is in
    let same : with_line (with_schedule fresh (judged_texts texts).lines) l
    ≡ with_schedule fresh (judged_texts (texts ++ text ∷ [])).lines =
    sym (with_schedule-append fresh (judged_texts texts).lines (l ∷ []))
    ∙ ap (λ z. with_schedule fresh z.lines) (sym j) in
    record { are_lines = ap (λ z. z.ending) j; made = subst (λ (r : Ran). RunsSo new r) same made }

output_more : (texts : List (List ℕ)) (text : List ℕ) (l : Line) → (judged_texts texts).ending ≡ whole
    → line_of text ≡ Some l → texts_output (texts ++ text ∷ []) ≡ texts_output texts
    ++ output_of (with_schedule fresh (judged_texts texts).lines) l
output_more texts text l are is =
    ap (λ z. outputs fresh z.lines) (one_more texts text l are is)
    ∙ outputs-append fresh (judged_texts texts).lines (l ∷ [])
    ∙ ap (λ z. texts_output texts ++ z) (append-nil _)

-- ---- What is written for the lines

-- The text of a history continues the text before its newest turn.
abbrev pub Grows : (List Turn → List ℕ) → Type 0
Grows text = (h : List Turn) (turn : Turn) → TextGoesOn (text h) (text (turn ∷ h))

text_grows : (text : List Turn → List ℕ) → Grows text → (more h : List Turn) → TextGoesOn (text h) (text (more ++ h))
text_grows text grows [] h = ([], sym (append-nil (text h)))
text_grows text grows (turn ∷ more) h =
    let first = text_grows text grows more h in
    let then = grows (more ++ h) turn in
    (first.0 ++ then.0, then.1 ∙ ap (λ z. z ++ then.0) first.1 ∙ append_assoc (text h) first.0 then.0)

line_text_grows : (text : List Turn → List ℕ) → Grows text → (ran : Ran) (l : Line)
    → TextGoesOn (text ran.history) (text (with_line ran l).history)
line_text_grows text grows ran l =
    let g = line_grows ran l in
    let t = text_grows text grows g.more ran.history in
    (t.0, ap text g.grows ∙ t.1)

text_more : (text : List Turn → List ℕ) (texts : List (List ℕ)) (line_text : List ℕ) (l : Line)
    → (judged_texts texts).ending ≡ whole
    → line_of line_text ≡ Some l
    → text (with_schedule fresh (judged_texts (texts ++ line_text ∷ [])).lines).history
    ≡ text (with_line (with_schedule fresh (judged_texts texts).lines) l).history
text_more text texts line_text l are is =
    ap (λ z. text (with_schedule fresh z.lines).history) (one_more texts line_text l are is)
    ∙ ap (λ (r : Ran). text r.history) (with_schedule-append fresh (judged_texts texts).lines (l ∷ []))

told_more : (wanted : Bool) (text : List Turn → List ℕ) (texts : List (List ℕ)) (line_text : List ℕ) (l : Line)
    (old new : List ℕ)
    → (judged_texts texts).ending ≡ whole → line_of line_text ≡ Some l
    → IsTold wanted text (with_schedule fresh (judged_texts texts).lines) l old new
    → (added : List ℕ) × (told_texts wanted text (texts ++ line_text ∷ []) ≡ told_texts wanted text texts ++ added)
    × (new ≡ old ++ added)
told_more true text texts line_text l old new are is wrote =
    (output_of (with_schedule fresh (judged_texts texts).lines) l, output_more texts line_text l are is, wrote)
told_more false text texts line_text l old new are is wrote =
    (wrote.0, text_more text texts line_text l are is ∙ wrote.1, wrote.2)

told_grows : (wanted : Bool) (text : List Turn → List ℕ) → Grows text
    → (texts : List (List ℕ)) (line_text : List ℕ) (l : Line)
    → (judged_texts texts).ending ≡ whole → line_of line_text ≡ Some l
    → TextGoesOn (told_texts wanted text texts) (told_texts wanted text (texts ++ line_text ∷ []))
told_grows true text grows texts line_text l are is =
    (output_of (with_schedule fresh (judged_texts texts).lines) l, output_more texts line_text l are is)
told_grows false text grows texts line_text l are is =
    let t = line_text_grows text grows (with_schedule fresh (judged_texts texts).lines) l in
    (t.0, text_more text texts line_text l are is ∙ t.1)

-- ---- A line is taken

-- If a line is run and told after `texts`, the new state has taken `texts` and then `line_text`.
pub takes : (wanted : Bool) (text : List Turn → List ℕ) (old new : SimValue) (line_text : List ℕ) (l : Line)
    (earlier after : List ℕ)
    → line_of line_text ≡ Some l
    → ((ran : Ran) → RunsSo old ran → Tells wanted text new ran l earlier after)
    → (texts : List (List ℕ)) → Took old texts
    → Goes (λ z. Took new z) (told_texts wanted text) texts line_text earlier after
takes wanted text old new line_text l earlier after is goes texts t =
    let g = goes (with_schedule fresh (judged_texts texts).lines) t.made in
    let m = told_more wanted text texts line_text l earlier after t.are_lines is g.wrote in
    record { taken = took_more old new texts line_text l t is g.made; added = m.0; grows = m.1; wrote = m.2 }

breaks_by : (wanted : Bool) (text : List Turn → List ℕ) → Grows text
    → (old new : SimValue) (line_text : List ℕ) (l : Line) → line_of line_text ≡ Some l
    → (texts : List (List ℕ)) → Took old texts → MayHaveBroken new (with_schedule fresh (judged_texts texts).lines) l
    → Breaks (λ z. Took new z) (λ z w. Broke new z w) (told_texts wanted text) texts line_text
breaks_by wanted text grows old new line_text l is texts t (inl (inl same)) =
    inl (record { are_lines = t.are_lines; made = same })
breaks_by wanted text grows old new line_text l is texts t (inl (inr made)) =
    inr (inl (
      took_more old new texts line_text l t is made,
      told_grows wanted text grows texts line_text l t.are_lines is,
    ))
breaks_by wanted text grows old new line_text l is texts t (inr part) =
    inr (inr (record { are_lines = t.are_lines; line = l; is = is; part = part }))

-- Memory ran out at a line after `texts`: it was taken, not taken, or broken off within.
pub breaks : (wanted : Bool) (text : List Turn → List ℕ) → Grows text
    → (old new : SimValue) (line_text : List ℕ) (l : Line) → line_of line_text ≡ Some l
    → ((ran : Ran) → RunsSo old ran → MayHaveBroken new ran l)
    → (texts : List (List ℕ)) → Took old texts
    → Breaks (λ z. Took new z) (λ z w. Broke new z w) (told_texts wanted text) texts line_text
breaks wanted text grows old new line_text l is may texts t =
    breaks_by wanted text grows old new line_text l is texts t
    (may (with_schedule fresh (judged_texts texts).lines) t.made)
