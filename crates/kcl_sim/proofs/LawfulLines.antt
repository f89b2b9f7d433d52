-- All turns of a schedule's run are lawful: their values are in the ranges of the API.
use Rattle.std.proofs.Common.{◌≡◌, ℕ, ◌+◌, ◌<◌, ◌^◌, List, [], ◌∷◌, Option, Some, None, Result, Ok, Err, refl, subst}
use Rattle.std.proofs.Common.{◌++◌}
use Rattle.std.specs.List.{AllByRecursion}
use Rattle.kds_defs.specs.declared.command.Command.{Command}
use Rattle.kds_defs.specs.Lawful.{IsHistory}
use Rattle.kds_json_members.specs.declared.problem.Fault.{Fault}
use Rattle.kds_json.specs.Asked.{asked, IsRequest}
use Rattle.kcl_script.specs.declared.line.Line.{Line}
use Rattle.kcl_script.specs.declared.line.Line.TheVariants.{Api, Hand, Raw, Step, Stop, Worker}
use Rattle.kcl_script.specs.Line.{line_of, IsLine}
use Rattle.kds_lines.specs.Lines.{End, lined}
use Rattle.kds_defs.specs.declared.command.Turn.{Turn}
use Rattle.kcl_sim.specs.Output.{Ran, fresh, requested, with_line, with_schedule}
use Rattle.kcl_sim.specs.Workers.{employed_by}
use Rattle.kcl_sim.proofs.LawfulHands.{hand_lawful, part_lawful}
use Rattle.kcl_sim.proofs.LawfulSteps.{AreBounded, line_bounded, step_lawful, stop_lawful}
use Rattle.kcl_sim.specs.Schedule.{Judged, judge_form, judge, judged, history}
use Rattle.kcl_sim.specs.Standing.{HasRunPart, SimValue}

pub request_lawful : (h : List Turn) (moment : ℕ) (r : Result Command Fault) → moment < 2 ^ 62
    → ((command : Command) → r ≡ Ok command → IsRequest command) → IsHistory h → IsHistory (requested h moment r)
request_lawful h moment (Ok command) early lawful past = ((early, (lawful command refl).0), past)
request_lawful h moment (Err f) early lawful past = past

-- All lines of the judgement have values in their ranges.
abbrev pub AreLines : Judged → Type 0
AreLines j = AllByRecursion IsLine j.lines

-- Assumed law: a request that is read as a command is read as one that requests may have.
abbrev pub AskLawfully : Type 0
AskLawfully = (operation body : List ℕ) (command : Command) → asked operation body ≡ Ok command → IsRequest command

-- Assumed law: a text that is read as a line has values in their ranges.
abbrev pub ReadLines : Type 0
ReadLines = (text : List ℕ) (line : Line) → line_of text ≡ Some line → IsLine line

module _ (reads : ReadLines) where
  form_lines : (count : ℕ) (text : List ℕ) (o : Option Line) (later : Judged) → line_of text ≡ o → AreLines later
      → AreLines (judge_form count o later)
  form_lines count text None later is are = tt
  form_lines count text (Some l) later is are = (reads text l is, are)

  judge_lines : (count : ℕ) (texts : List (List ℕ)) (end : End) → AreLines (judge count texts end)
  judge_lines count [] end = tt
  judge_lines count (text ∷ texts) end = form_lines count text (line_of text) _ refl (judge_lines (count + 1) texts end)

  front_lines : (ls ks : List Line) → AllByRecursion IsLine (ls ++ ks) → AllByRecursion IsLine ls
  front_lines [] ks are = tt
  front_lines (l ∷ ls) ks are = (are.0, front_lines ls ks are.1)

  pub schedule_lines : (bytes : List ℕ) → AllByRecursion IsLine (judged bytes).lines
  schedule_lines bytes = judge_lines 0 (lined bytes).texts (lined bytes).end

  -- Any first lines of a schedule have values in their ranges.
  pub first_lines : (bytes : List ℕ) (lines later : List Line) → (judged bytes).lines ≡ lines ++ later
      → AllByRecursion IsLine lines
  first_lines bytes lines later parts =
      front_lines lines later (subst (λ (z : List Line). AllByRecursion IsLine z) parts (schedule_lines bytes))

module _ (asks : AskLawfully) (reads : ReadLines) where
  line_lawful : (ran : Ran) (l : Line) → IsLine l → AreBounded ran.workers → IsHistory ran.history
      → IsHistory (with_line ran l).history
  line_lawful ran (Api moment operation body) is bound past =
      request_lawful ran.history moment (asked operation body) is.0 (asks operation body) past
  line_lawful ran (Raw moment actor command long) is bound past = ((is.0, is.1.1.0.lawful), past)
  line_lawful ran (Worker moment name kind origin) is bound past = past
  line_lawful ran (Step moment actor) is bound past = step_lawful ran moment actor is.0 bound past
  line_lawful ran (Stop moment actor) is bound past = stop_lawful ran actor (employed_by actor ran.workers) past
  line_lawful ran (Hand moment actor key) is bound past =
      hand_lawful ran moment actor key (employed_by actor ran.workers) refl is.0 bound past

  schedule_lawful : (ran : Ran) (ls : List Line) → AllByRecursion IsLine ls → AreBounded ran.workers
      → IsHistory ran.history → IsHistory (with_schedule ran ls).history
  schedule_lawful ran [] are bound past = past
  schedule_lawful ran (l ∷ ls) are bound past =
      schedule_lawful (with_line ran l) ls are.1 (line_bounded ran l are.0 bound) (line_lawful ran l are.0 bound past)

  pub history_lawful : (bytes : List ℕ) → IsHistory (history bytes)
  history_lawful bytes = schedule_lawful fresh (judged bytes).lines (schedule_lines reads bytes) tt tt

  -- The turns of any first lines of a schedule are lawful.
  pub front_lawful : (bytes : List ℕ) (lines later : List Line) → (judged bytes).lines ≡ lines ++ later
      → IsHistory (with_schedule fresh lines).history
  front_lawful bytes lines later parts = schedule_lawful fresh lines (first_lines reads bytes lines later parts) tt tt

  middle_line : (ls ks : List Line) (l : Line) → AllByRecursion IsLine (ls ++ l ∷ ks) → IsLine l
  middle_line [] ks l are = are.0
  middle_line (k ∷ ls) ks l are = middle_line ls ks l are.1

  schedule_bounded : (ran : Ran) (ls : List Line) → AllByRecursion IsLine ls → AreBounded ran.workers
      → AreBounded (with_schedule ran ls).workers
  schedule_bounded ran [] are bound = bound
  schedule_bounded ran (l ∷ ls) are bound = schedule_bounded (with_line ran l) ls are.1 (line_bounded ran l are.0 bound)

  -- The turns of a schedule's run are lawful where memory ran out within a line.
  pub middle_lawful : (bytes : List ℕ) (lines later : List Line) (l : Line) (s : SimValue)
      → (judged bytes).lines ≡ lines ++ l ∷ later
      → HasRunPart s (with_schedule fresh lines) l → IsHistory s.history
  middle_lawful bytes lines later l s parts p =
      let all : AllByRecursion IsLine (lines ++ l ∷ later) =
      subst (λ (z : List Line). AllByRecursion IsLine z) parts (schedule_lines reads bytes) in
      part_lawful p.ran_of_it (with_schedule fresh lines) l s.history p.history (middle_line lines later l all)
      (schedule_bounded fresh lines (front_lines reads lines (l ∷ later) all) tt)
      (front_lawful bytes lines (l ∷ later) parts)
