use Rattle.std.proofs.Common.{◌≡◌, Some, sym, ap, subst, ◌∙◌}
use Rattle.std.specs.Option.{option_map}
use Rattle.kcl_journal.specs.Entries.{entry_of}
use Rattle.kcl_audit_streams.specs.Verdict.{verdict}
use Rattle.kcl_audit.specs.Progress.{after_entry, after_line, line_of}
use Rattle.kcl_audit.specs.declared.stage.Stage.TheVariants as stage
use Rattle.kcl_audit.specs.Stages.{IsAt, IsNamed}
use Rattle.kcl_audit.proofs.Stages.{good_by, named_by}
use Rattle.kcl_audit.proofs.lines.line.Goals.{in-Some-2, in-None}
use Rattle.kcl_audit.proofs.lines.line.Goals as goal

pub entry_name-requires-clause-told : goal.entry_name-requires-clause-told
entry_name-requires-clause-told c = (
  c.args.version,
  (c.one_entry.ensures.reads c.args.version c.args.text.now c.in-Some.entry
      (sym c.in_ok-entry.ensures ∙ c.in-Some.is)).0.what,
)

pub returns-in-Some-clause-at : goal.returns-in-Some-clause-at
returns-in-Some-clause-at c = λ log st.
    let v = c.args.version in
    let count = c.args.count in
    let e = c.in-Some.entry in
    let a = c.entry_name.new.audit in
    let read : entry_of v c.args.text.now ≡ Some e = sym c.in_ok-entry.ensures ∙ c.in-Some.is in
    let x = verdict log (line_of e) in
    let p = after_entry v log count e x in
    subst (λ o. IsAt c.match-branch-4.result a (after_line v log count c.args.text.now o)) (sym read)
    (elim c.match-branch-4.branch [
      | in-Some-2 w ↦
          subst (λ s. IsAt s a p) (sym w.result-is)
          (subst (λ n. IsNamed n w.in-Some-2.name.now p) (sym c.next-number.ensures)
          (named_by v c.requires.version log count e a x w.in-Some-2.name.now
          (ap (option_map (λ s. s.now)) (sym w.in-Some-2.is) ∙ c.in_ok-name.ensures.name log st)))
      | in-None w ↦
          subst (λ s. IsAt s a p) (sym w.result-is)
          (subst (λ n. IsAt (stage.Going v n) a p) (sym c.next-number.ensures)
          (good_by v c.requires.version log count e a x (ap (option_map (λ s. s.now)) (sym w.in-None.is)
          ∙ c.in_ok-name.ensures.name log st)
          (c.in_ok-name.ensures.good log st w.in-None.is)))
    ])
