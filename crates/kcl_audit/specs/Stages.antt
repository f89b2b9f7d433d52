-- The stage that an audit's code keeps along the lines, and the progress that it represents.
use Rattle.std.specs.Prelude.{◌++◌, ℕ, ◌≡◌, Bool, true, false, List, [], Option, Some, None, Ok, Err}
use Rattle.kds_defs.specs.Journal.{Journal}
use Rattle.kcl_journal.specs.Entries.{IsVersion}
use Rattle.kcl_audit_streams.specs.declared.rule.Rule.{Rule}
use Rattle.kcl_audit_judge.specs.Standing.{JudgeValue, Stands}
use Rattle.kcl_audit_streams.specs.Verdict.{Verdict}
use Rattle.kcl_audit.specs.declared.stage.Stage.{Stage}
use Rattle.kcl_audit.specs.declared.stage.Stage.TheVariants as stage
use Rattle.kds_lines.specs.Lines.{End, unfinished, whole}
use Rattle.kcl_audit.specs.Progress.{AuditEnd, Progress, closed, finish, found, fresh, going, progress, sound}
use Rattle.kcl_audit.specs.Text.{audit_text, named_text, report, rule_name}

-- The name of the rule that is broken; None for a good verdict.
abbrev pub name_in : (verdict : Verdict) → Option (List ℕ)
name_in (Ok u) = None
name_in (Err r) = Some (rule_name r)

-- An audit as contracts see it: its judge and its stage.
pub record TakerValue : Type 0 where
  pub judge : JudgeValue
  pub stage : Stage

-- The judge represents some journal.
abbrev pub HasJournal : (a : JudgeValue) → Type 0
HasJournal a = (log : Journal) × Stands a log

-- While entries may follow, the text has a version that exists.
abbrev pub HasVersion : (stage : Stage) → Type 0
HasVersion (stage.Going version count) = IsVersion version
HasVersion _ = Unit {0}

-- In the progress `p`, the entry `n` breaks the rule with this name.
abbrev pub IsNamed : (n : ℕ) (name : List ℕ) (p : Progress) → Type 0
IsNamed n name p = (r : Rule) × ((p ≡ found n r) × (name ≡ rule_name r))

-- The stage represents the progress; while entries may follow, the judge represents their journal.
abbrev pub IsAt : (stage : Stage) (a : JudgeValue) (p : Progress) → Type 0
IsAt stage.Fresh a p = (p ≡ fresh) × Stands a []
IsAt (stage.Going version count) a p =
    IsVersion version × ((log : Journal) × ((p ≡ going version log count) × Stands a log))
IsAt (stage.Closed count) a p = p ≡ closed count
IsAt (stage.Found n name) a p = IsNamed n name.now p

-- The audit has taken these lines: its stage represents the progress after them.
abbrev pub Took : (v : TakerValue) (texts : List (List ℕ)) → Type 0
Took v texts = IsAt v.stage v.judge (progress texts)

-- Memory ran out within a line: never, as an audit takes no line in part.
abbrev pub Broke : (v : TakerValue) (texts : List (List ℕ)) (text : List ℕ) → Type 0
Broke v texts text = ⊥

-- An entry among the lines is bad, so the audit takes no further line.
abbrev pub IsOver : (texts : List (List ℕ)) (text : List ℕ) → Type 0
IsOver texts text = (n : ℕ) × ((r : Rule) × (progress texts ≡ found n r))

-- What was written up to this stage: the report on a bad entry, or nothing.
abbrev pub stage_report : (stage : Stage) → List ℕ
stage_report (stage.Found n name) = named_text n name.now
stage_report _ = []

-- What was written along these lines: the report on the first bad entry, or nothing.
abbrev pub texts_report : (texts : List (List ℕ)) → List ℕ
texts_report texts = report (progress texts)

-- Whether the stage has a bad entry.
abbrev pub is_found : (stage : Stage) → Bool
is_found (stage.Found n name) = true
is_found _ = false

-- Whether the progress has a bad entry.
abbrev pub is_bad : (progress : Progress) → Bool
is_bad (found n r) = true
is_bad _ = false

-- ---- The end of the lines

-- How an input ends: inside a line if true, after a line feed if false.
abbrev pub end_by : (is_whole : Bool) → End
end_by true = unfinished
end_by false = whole

-- Whether the result is that every entry is good.
abbrev pub is_sound : (audit_end : AuditEnd) → Bool
is_sound (sound n) = true
is_sound _ = false

-- `says` is whether every entry is good, and the rest of the audit's text was added to the output.
pub record Finishes (p : Progress) (end : End) (says : Bool) (old new : List ℕ) : Type 0 where
  pub says_so : says ≡ is_sound (finish p end)
  pub added : List ℕ
  pub text : report p ++ added ≡ audit_text (finish p end)
  pub wrote : new ≡ old ++ added
