-- The stage of an audit's code represents the progress, and still does after one more line.
use Rattle.std.proofs.Common.{◌≡◌, ℕ, false, List, [], ◌∷◌, ◌++◌, refl, sym, ap, subst, ◌∙◌, inl, inr, Some, None}
use Rattle.std.specs.Prelude.{Result, Ok, Err, OnErr}
use Rattle.kds_lines.specs.Taking.{Breaks, Goes}
use Rattle.kcl_audit_judge.specs.Standing.{JudgeValue, Stands}
use Rattle.kcl_audit.specs.declared.stage.Stage.{Stage}
use Rattle.kcl_audit.specs.declared.stage.Stage.TheVariants as stage
use Rattle.kds_defs.specs.Journal.{Journal}
use Rattle.kcl_journal.specs.declared.line.EntryLine.{EntryLine}
use Rattle.kcl_journal.specs.Entries.{IsVersion}
use Rattle.kcl_audit_streams.specs.Verdict.{Verdict}
use Rattle.kcl_audit.specs.Progress.{Progress, after_entry, fresh, line_of, next, progress, step}
use Rattle.kcl_audit.specs.Stages.{Broke, IsAt, IsNamed, TakerValue, Took, is_found, name_in, stage_report}
use Rattle.kcl_audit.specs.Stages.{texts_report}
use Rattle.kcl_audit.specs.Text.{named_text, report, rule_name}
use Rattle.kcl_audit.proofs.Ends.{appended}

pub report_at : (s : Stage) (a : JudgeValue) (p : Progress) → IsAt s a p → report p ≡ stage_report s
report_at stage.Fresh a p h = ap report h.0
report_at (stage.Going version count) a p h = ap report h.1.1.0
report_at (stage.Closed count) a p h = ap report h
report_at (stage.Found n name) a p h = ap report h.1.0 ∙ ap (named_text n) (sym h.1.1)

nothing : (s : Stage) → is_found s ≡ false → stage_report s ≡ []
nothing (stage.Found n name) h = absurd cc
nothing _ h = refl

-- ---- After an entry

-- `e` is an entry of a text in the version `v` after `count` entries of `log`, and `a` the judge after it.
module _ (v : ℕ) (version : IsVersion v) (log : Journal) (count : ℕ) (e : EntryLine) (a : JudgeValue) where
  pub named_by : (x : Verdict) (name : List ℕ) → Some name ≡ name_in x
      → IsNamed (next count) name (after_entry v log count e x)
  named_by (Ok u) name h = absurd cc
  named_by (Err r) name h = let same : name ≡ rule_name r = cc in (r, (refl, same))

  pub good_by : (x : Verdict) → None ≡ name_in x → Stands a (line_of e ∷ log)
      → IsAt (stage.Going v (next count)) a (after_entry v log count e x)
  good_by (Ok u) h st = (version, (line_of e ∷ log, (refl, st)))
  good_by (Err r) h st = absurd cc

-- ---- After one more line

-- `old` took `texts` and found no bad entry; `new` is the audit after the line `text`.
module _ (old new : TakerValue) (texts : List (List ℕ)) (text : List ℕ) (is_before : is_found old.stage ≡ false)
    (took : Took old texts)
    (is_at : IsAt new.stage new.judge (step (progress texts) text)) where
  takes : Took new (texts ++ text ∷ [])
  takes = subst (IsAt new.stage new.judge) (sym (appended fresh texts (text ∷ []))) is_at

  grows : texts_report (texts ++ text ∷ []) ≡ texts_report texts ++ stage_report new.stage
  grows =
      report_at new.stage new.judge (progress (texts ++ text ∷ [])) takes
      ∙ ap (λ r. r ++ stage_report new.stage)
      (sym (report_at old.stage old.judge (progress texts) took ∙ nothing old.stage is_before))

  -- The line was taken, and just what it adds to the report was written.
  pub goes_on : (letters output : List ℕ) → output ≡ letters ++ stage_report new.stage
      → Goes (Took new) texts_report texts text letters output
  goes_on letters output wrote = record { taken = takes; added = stage_report new.stage; grows = grows; wrote = wrote }

  -- Memory ran out after the line was taken.
  pub breaks_off : Breaks (Took new) (Broke new) texts_report texts text
  breaks_off = inr (inl (takes, (stage_report new.stage, grows)))

pub on_err : {A B : Type 0} (r : Result A B) (X : Type 0) → X → OnErr r X
on_err (Ok x) X h = tt
on_err (Err e) X h = h

-- ---- The end of the lines
