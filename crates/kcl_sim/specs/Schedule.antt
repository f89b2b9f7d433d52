-- A schedule as bytes: its lines up to what ends its run, and their run, history and output.
use Rattle.std.specs.Prelude.{ℕ, ◌+◌, List, [], ◌∷◌, ◌++◌, reverse, Option, Some, None}
use Rattle.kds_defs.specs.declared.command.Turn.{Turn}
use Rattle.kds_lines.specs.Lines as input
use Rattle.kds_lines.specs.Lines.{End, lined}
use Rattle.kcl_script.specs.declared.line.Line.{Line}
use Rattle.kcl_script.specs.Line.{line_of}
use Rattle.kcl_sim.specs.Output.{Ran, fresh, with_schedule, outputs}

-- How a run ends: after all bytes, at a line or input that is too long, or at a text (from 1) that is no line.
pub data Ending : Type 0 where
  whole too_long : Ending
  bad_line : ℕ → Ending

-- The lines of a schedule that are run, and how the run then ends.
pub record Judged : Type 0 where
  pub lines : List Line
  -- How the run ends.
  pub ending : Ending

-- The judgement without lines that ends as `e`.
abbrev pub decided : (e : Ending) → Judged
decided e = record { lines = []; ending = e }

-- The judgement with `l` as its first line.
abbrev pub preceded : (l : Line) (j : Judged) → Judged
preceded l j = record { lines = l ∷ j.lines; ending = j.ending }

-- The judgement with `ls` before its own lines.
abbrev pub preceded_by : (ls : List Line) (j : Judged) → Judged
preceded_by ls j = record { lines = ls ++ j.lines; ending = j.ending }

-- How the run ends with the input after `count` lines; an unfinished last line is no line.
abbrev pub judge_end : (count : ℕ) (end : End) → Ending
judge_end count input.whole = whole
judge_end count input.unfinished = bad_line (count + 1)
judge_end count input.too_long = too_long

-- The judgement of a text that was read as `l` after `count` lines; None, no line, ends it.
abbrev pub judge_form : (count : ℕ) (l : Option Line) (later : Judged) → Judged
judge_form count None later = decided (bad_line (count + 1))
judge_form count (Some l) later = preceded l later

-- The judgement of texts after `count` lines, in an input that ends as `end`.
abbrev pub judge : (count : ℕ) (texts : List (List ℕ)) (end : End) → Judged
judge count [] end = decided (judge_end count end)
judge count (text ∷ texts) end = judge_form count (line_of text) (judge (count + 1) texts end)

-- The judgement of a schedule's bytes: it ends at the first line or input too long, or text that is no line.
abbrev pub judged : (bytes : List ℕ) → Judged
judged bytes = judge 0 (lined bytes).texts (lined bytes).end

-- The run of the schedule with these bytes.
abbrev pub ran : (bytes : List ℕ) → Ran
ran bytes = with_schedule fresh (judged bytes).lines

-- The turns of the schedule's run, newest first.
abbrev pub history : (bytes : List ℕ) → List Turn
history bytes = (ran bytes).history

-- The turns of the schedule's run, oldest first.
abbrev pub turns : (bytes : List ℕ) → List Turn
turns bytes = reverse (history bytes)

-- The output of the schedule's run.
abbrev pub text : (bytes : List ℕ) → List ℕ
text bytes = outputs fresh (judged bytes).lines

-- How the schedule's run ends.
abbrev pub ending : (bytes : List ℕ) → Ending
ending bytes = (judged bytes).ending
