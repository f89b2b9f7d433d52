-- A run that takes an input's lines one by one: what it took, where it stops, and what it writes.
use Rattle.std.specs.Prelude.{◌≡◌, ℕ, Bool, true, false, List, [], Some, None, refl}
use Rattle.kds_defs.specs.declared.command.Turn.{Turn}
use Rattle.kds_lines.specs.Lines as input
use Rattle.kcl_script.specs.declared.line.Line.{Line}
use Rattle.kcl_script.specs.Line.{line_of}
use Rattle.kcl_sim.specs.Output.{fresh, with_schedule, outputs}
use Rattle.kcl_sim.specs.Standing.{HasRunPart, RunsSo, SimValue}
use Rattle.kcl_sim.specs.Schedule.{Judged, judge, whole}

-- The judgement of the texts of a schedule that ends after them.
abbrev pub judged_texts : (texts : List (List ℕ)) → Judged
judged_texts texts = judge 0 texts input.whole

-- All the texts are lines, and `s` stands for their run.
pub record Took (s : SimValue) (texts : List (List ℕ)) : Type 0 where
  pub are_lines : (judged_texts texts).ending ≡ whole
  pub made : RunsSo s (with_schedule fresh (judged_texts texts).lines)

-- After the lines `texts`, memory ran out within the hand-off line `text`.
pub record Broke (s : SimValue) (texts : List (List ℕ)) (text : List ℕ) : Type 0 where
  pub are_lines : (judged_texts texts).ending ≡ whole
  pub line : Line
  pub is : line_of text ≡ Some line
  pub part : HasRunPart s (with_schedule fresh (judged_texts texts).lines) line

-- `text` is no line of a schedule, whatever texts came before it.
abbrev pub IsNoLine : (texts : List (List ℕ)) (text : List ℕ) → Type 0
IsNoLine texts text = line_of text ≡ None

-- The output of the run of these lines.
abbrev pub texts_output : (texts : List (List ℕ)) → List ℕ
texts_output texts = outputs fresh (judged_texts texts).lines

-- What is written for these lines: their output, or the text of their run's history.
abbrev pub told_texts : (is_wanted : Bool) (text : List Turn → List ℕ) (texts : List (List ℕ)) → List ℕ
told_texts true text texts = texts_output texts
told_texts false text texts = text (with_schedule fresh (judged_texts texts).lines).history

-- Nothing is written for no lines if `text` makes nothing of an empty history.
pub nothing_told : (wanted : Bool) (text : List Turn → List ℕ) → text [] ≡ [] → told_texts wanted text [] ≡ []
nothing_told true text none = refl
nothing_told false text none = none
