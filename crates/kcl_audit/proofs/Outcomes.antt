-- What holds of an audit for each outcome of the reading of its input.
use Rattle.std.proofs.Common.{◌≡◌, ℕ, true, false, List, [], Option, refl, sym}
use Rattle.kds_ends.specs.declared.status.Status.{Status}
use Rattle.kds_ends.specs.declared.status.Status.TheVariants as status
use Rattle.kds_lines.specs.declared.outcome.Outcome.{Outcome}
use Rattle.kds_lines.specs.declared.outcome.Outcome.TheVariants as outcome
use Rattle.kds_lines.specs.Telling.{HasTaken, Told, Unwritten}
use Rattle.kcl_audit.specs.Progress.{finish, progress}
use Rattle.kcl_audit.specs.Text.{report}
use Rattle.kcl_audit.specs.Stages.{Broke, IsOver, TakerValue, Took, end_by, is_bad, texts_report}
use Rattle.kcl_audit.specs.Audited.{TellsAudit, TellsEnd}
use Rattle.kcl_audit.proofs.Ends.{is_bad_found}
use Rattle.kcl_audit.proofs.Telling.{bad_tells, end_tells, memory_tells, read_tells, write_tells}

all_of : (o : Outcome) (back : List ℕ) → (o ≡ outcome.Write → ⊥) → (o ≡ outcome.Memory → ⊥) → Unwritten o back
    → back ≡ []
all_of outcome.Write back w m u = absurd (w refl)
all_of outcome.Memory back w m u = absurd (m refl)
all_of _ back w m u = u

taken_of : (o : Outcome) (v : TakerValue) (texts rest : List (List ℕ)) → (o ≡ outcome.Memory → ⊥)
    → HasTaken o (Took v) (Broke v) texts rest → Took v texts
taken_of outcome.Memory v texts rest m t = absurd (m refl)
taken_of _ v texts rest m t = t

module _ (v : TakerValue) (bytes : List ℕ) (left start mid : Option (List ℕ)) where
  -- The audit's reading of `bytes` ended with the outcome `o`; `left` is what the source still has.
  abbrev Reads : Outcome → Type 0
  Reads o = Told o (Took v) (Broke v) IsOver texts_report bytes left start mid

  pub told_write : (o : Outcome) → Reads o → TellsAudit status.Write bytes start mid
  told_write o t = write_tells bytes t.texts t.rest t.front t.back start mid t.parts t.output_is t.written

  pub told_memory : (o : Outcome) → Reads o → TellsAudit status.Memory bytes start mid
  told_memory o t = memory_tells bytes t.texts t.rest t.front t.back start mid t.parts t.output_is t.written

  pub told_bad : (o : Outcome) → (o ≡ outcome.Write → ⊥) → (o ≡ outcome.Memory → ⊥)
      → ((texts : List (List ℕ)) → Took v texts → true ≡ is_bad (progress texts)) → Reads o
      → TellsAudit status.Unsound bytes start mid
  told_bad o w m bad t =
      bad_tells bytes t.texts t.rest t.front t.back start mid t.parts t.output_is t.written
      (all_of o t.back w m t.unwritten)
      (sym (bad t.texts (taken_of o v t.texts t.rest m t.taken)))

  -- No entry among the lines that were taken is bad.
  module _ (good : (texts : List (List ℕ)) → Took v texts → false ≡ is_bad (progress texts)) where
    pub told_read : Reads outcome.Read → TellsAudit status.Read bytes start mid
    told_read t = read_tells bytes t.texts t.rest t.front t.back start mid t.parts t.output_is t.written t.unwritten
        (sym (good t.texts t.taken))

    pub told_stopped : (n : ℕ) (s : Status) → Reads (outcome.Stopped n) → TellsAudit s bytes start mid
    told_stopped n s t = absurd (is_bad_found (progress t.texts) t.because.3 (good t.texts t.taken))

  module _ (now : Option (List ℕ)) (s : Status) where
    -- If the input ended after a line feed, the status at the audit's end holds for the whole audit.
    pub told_whole : ((texts : List (List ℕ)) → Took v texts
        → TellsEnd s (finish (progress texts) (end_by false)) (report (progress texts)) mid now)
        → Reads outcome.Whole → TellsAudit s bytes start now
    told_whole ends t =
        end_tells bytes t.texts t.rest t.front t.back start mid t.parts t.output_is t.written t.unwritten false now
        t.because.1 t.because.0 s
        (ends t.texts t.taken)

    -- If the input ended inside a line, the status at the audit's end holds for the whole audit.
    pub told_unfinished : (n : ℕ) → ((texts : List (List ℕ)) → Took v texts
        → TellsEnd s (finish (progress texts) (end_by true)) (report (progress texts)) mid now)
        → Reads (outcome.Unfinished n) → TellsAudit s bytes start now
    told_unfinished n ends t =
        end_tells bytes t.texts t.rest t.front t.back start mid t.parts t.output_is t.written t.unwritten true now
        t.because.1 t.because.0 s
        (ends t.texts t.taken)
