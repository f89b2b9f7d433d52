-- A run's journal text only grows at its end.
use Rattle.std.proofs.Common.{◌≡◌, List, [], ◌∷◌, ◌++◌, sym, ap, ◌∙◌}
use Rattle.std.proofs.lemmas.List.{append_assoc, append-nil}
use Rattle.kds_defs.specs.declared.command.Turn.{Turn}
use Rattle.kds_lines.specs.Taking.{GoesOn}
use Rattle.kcl_journal.specs.declared.line.EntryLine.{EntryLine}
use Rattle.kcl_sim_scribe.specs.Added.{added_entries, entries_text, history_entries}
use Rattle.kcl_script.specs.declared.line.Line.{Line}
use Rattle.kcl_sim.specs.Output.{Ran, fresh, with_line, with_schedule}
use Rattle.kcl_sim.specs.Standing.{GrowsFew}
use Rattle.kds_cli_runs.specs.Entries.{entries_text_of, lines_journal}

-- A premise: a line adds at most three turns.
abbrev pub FewTurns : Type 0
FewTurns = (ran : Ran) (line : Line) → GrowsFew ran.history (with_line ran line).history

-- A premise: a run of `ls` and then `ks` is the run of `ks` after `ls`.
abbrev pub StatesOn : Type 0
StatesOn = (ran : Ran) (ls ks : List Line) → with_schedule ran (ls ++ ks) ≡ with_schedule (with_schedule ran ls) ks

-- A premise: one more turn adds its entries at the end.
abbrev pub LinesOn : Type 0
LinesOn = (h : List Turn) (turn : Turn) → history_entries (turn ∷ h) ≡ history_entries h ++ added_entries h turn

-- A premise: the text of two lists of entries is the first text, then the second.
abbrev pub TextOn : Type 0
TextOn = (xs ys : List EntryLine) → entries_text (xs ++ ys) ≡ entries_text xs ++ entries_text ys

turn_more : LinesOn → TextOn → (h : List Turn) (turn : Turn)
    → entries_text_of (turn ∷ h) ≡ entries_text_of h ++ entries_text (added_entries h turn)
turn_more lines_on text_on h turn =
    ap entries_text (lines_on h turn) ∙ text_on (history_entries h) (added_entries h turn)

pub turn_grows : LinesOn → TextOn → (h : List Turn) (turn : Turn)
    → GoesOn (entries_text_of h) (entries_text_of (turn ∷ h))
turn_grows lines_on text_on h turn = (entries_text (added_entries h turn), turn_more lines_on text_on h turn)

turns_grow : LinesOn → TextOn → (more h : List Turn) → GoesOn (entries_text_of h) (entries_text_of (more ++ h))
turns_grow lines_on text_on [] h = ([], sym (append-nil (entries_text_of h)))
turns_grow lines_on text_on (turn ∷ more) h =
    let first = turns_grow lines_on text_on more h in
    let then = turn_grows lines_on text_on (more ++ h) turn in
    (first.0 ++ then.0, then.1 ∙ ap (λ z. z ++ then.0) first.1 ∙ append_assoc (entries_text_of h) first.0 then.0)

line_grows : LinesOn → TextOn → FewTurns → (ran : Ran) (l : Line)
    → GoesOn (entries_text_of ran.history) (entries_text_of (with_line ran l).history)
line_grows lines_on text_on few ran l =
    let g = few ran l in
    let t = turns_grow lines_on text_on g.more ran.history in
    (t.0, ap entries_text_of g.grows ∙ t.1)

schedule_grows : LinesOn → TextOn → FewTurns → (ran : Ran) (ks : List Line)
    → GoesOn (entries_text_of ran.history) (entries_text_of (with_schedule ran ks).history)
schedule_grows lines_on text_on few ran [] = ([], sym (append-nil (entries_text_of ran.history)))
schedule_grows lines_on text_on few ran (k ∷ ks) =
    let a = line_grows lines_on text_on few ran k in
    let b = schedule_grows lines_on text_on few (with_line ran k) ks in
    (a.0 ++ b.0, b.1 ∙ ap (λ z. z ++ b.0) a.1 ∙ append_assoc (entries_text_of ran.history) a.0 b.0)

pub all_grow : LinesOn → TextOn → FewTurns → StatesOn → (ls ks : List Line)
    → GoesOn (lines_journal ls) (lines_journal (ls ++ ks))
all_grow lines_on text_on few states ls ks =
    let g = schedule_grows lines_on text_on few (with_schedule fresh ls) ks in
    (g.0, ap (λ (r : Ran). entries_text_of r.history) (states fresh ls ks) ∙ g.1)
