use Rattle.kcl_sim.specs.Schedule.{judged}
use Rattle.kcl_sim.proofs.LawfulLines.{first_lines, schedule_lines}
use Rattle.kcl_sim.proofs.Serving.{all_served}
use Rattle.kcl_sim.proofs.served.Goals as goal

pub returns : goal.returns
returns c = record {
  whole = λ bytes. all_served c.service.ensures.served (judged bytes).lines
      (schedule_lines (λ text line is. (c.one_spelling.ensures.reads text line is).0) bytes);
  first = λ bytes lines later parts.
      all_served c.service.ensures.served lines
      (first_lines (λ text line is. (c.one_spelling.ensures.reads text line is).0) bytes lines later parts);
}
