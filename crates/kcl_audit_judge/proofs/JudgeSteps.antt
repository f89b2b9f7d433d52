-- A judgement of a stream's entry gives the right verdict; after a good entry the judge represents the journal.
use Rattle.std.proofs.Common.{◌≡◌, ℕ, List, ◌∷◌, sym, subst, ◌∙◌}
use Rattle.std.specs.Prelude.{is_some, true, Result, Ok, Err, IfOk, OnOk}
use Rattle.kds_defs.proofs.Elsewhere.{of_some}
use Rattle.kds_defs.specs.declared.entry.Entry.{Entry}
use Rattle.kds_defs.specs.declared.reply.Row.{Row}
use Rattle.kds_defs.specs.Journal.{Journal}
use Rattle.kds_defs.specs.Subjects.{stream_of}
use Rattle.kcl_book.specs.Tenures.{TenureValue}
use Rattle.kcl_leases.proofs.StreamLines.{stands_beside}
use Rattle.kcl_leases.specs.Standing.{facing}
use Rattle.kcl_laws.specs.ShownLines.{entry_line}
use Rattle.kds_defs.specs.Legal.{told}
use Rattle.kcl_audit_streams.specs.Judging.{stream_verdict, streams_after}
use Rattle.kcl_audit_streams.specs.Standing.{Shows, StreamsValue}
use Rattle.kcl_audit_judge.specs.Standing.{JudgeValue, Holds, judge}
use Rattle.kcl_audit_judge.specs.Standing as judging
use Rattle.kcl_audit_streams.specs.Verdict.{Verdict, judged}
use Rattle.kcl_audit_judge.proofs.StreamsAfter.{shows_after, stream_told}

-- ---- Another clock

-- ---- An entry of a stream

-- `a` has `old` streams before the judgement of a stream's entry, and `new` are its streams after it.
module _ (a : JudgeValue) (old new : StreamsValue) (rs : List Row) (ts : List TenureValue) (is_a : judge old rs ts ≡ a)
    (actor : ℕ) (entry : Entry)
    (is_of : is_some (stream_of entry) ≡ true) (log : Journal) where
  told_by_value : (v : Verdict) → v ≡ stream_verdict old.streams old.clock entry → Holds a log
      → v ≡ judged (told log (entry_line a.streams.clock actor entry) entry) entry
  told_by_value v is = subst (λ (x : JudgeValue). Holds x log
      → v ≡ judged (told log (entry_line x.streams.clock actor entry) entry) entry) is_a (
      λ st. is ∙ sym (stream_told old log actor entry st.shows (of_some (stream_of entry) is_of)))

  -- `told_by_value` for a call that may fail.
  pub stream_value : {E : Type 0} (r : Result Verdict E) → IfOk r (λ v. v ≡ stream_verdict old.streams old.clock entry)
      → Holds a log
      → IfOk r (λ v. v ≡ judged (told log (entry_line a.streams.clock actor entry) entry) entry)
  stream_value (Ok v) is st = told_by_value v is st
  stream_value (Err e) is st = tt

  added_by_value : (v : Verdict) → new.clock ≡ old.clock → v ≡ stream_verdict old.streams old.clock entry
      → OnOk v (new.streams ≡ streams_after old.clock entry old.streams) → Holds a log
      → OnOk v (Holds (judge new rs ts) (entry_line a.streams.clock actor entry ∷ log))
  added_by_value (Ok u) is_at is after =
      subst (λ (x : JudgeValue). Holds x log → Holds (judge new rs ts) (entry_line x.streams.clock actor entry ∷ log))
      is_a
      (λ st.
      let apart = of_some (stream_of entry) is_of in
      stands_beside (facing old.clock (Shows old)) (facing new.clock (Shows new)) rs ts log
      (entry_line old.clock actor entry) apart
      (shows_after old new log actor entry st.shows apart (sym is) is_at after) st)
  added_by_value (Err e) is_at is after = λ st. tt

  -- `added_by_value` for a call that may fail.
  pub stream_good : {E : Type 0} (r : Result Verdict E) → new.clock ≡ old.clock
      → IfOk r (λ v. v ≡ stream_verdict old.streams old.clock entry)
      → IfOk r (λ v. OnOk v (new.streams ≡ streams_after old.clock entry old.streams)) → Holds a log
      → IfOk r (λ v. OnOk v (Holds (judge new rs ts) (entry_line a.streams.clock actor entry ∷ log)))
  stream_good (Ok v) is_at is after st = added_by_value v is_at is after st
  stream_good (Err e) is_at is after st = tt
