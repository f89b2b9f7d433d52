use Rattle.kcl_sim.specs.Schedule.{history}
use Rattle.kcl_sim.proofs.LawfulLines.{first_lines, front_lawful, history_lawful}
use Rattle.kcl_sim.proofs.Serving.{all_handed, all_read_once}
use Rattle.kcl_sim.proofs.handed_off.Goals as goal

pub returns : goal.returns
returns c = record {
  marked = λ bytes lines later parts.
      all_handed c.handed.ensures lines
      (first_lines (λ text line is. (c.one_spelling.ensures.reads text line is).0) bytes lines later parts)
      (front_lawful c.asks_lawfully.ensures (λ text line is. (c.one_spelling.ensures.reads text line is).0)
      bytes lines later parts);
  once = λ bytes lines later parts.
      all_read_once c.never_again.ensures (history bytes) lines
      (first_lines (λ text line is. (c.one_spelling.ensures.reads text line is).0) bytes lines later parts)
      (history_lawful c.asks_lawfully.ensures (λ text line is. (c.one_spelling.ensures.reads text line is).0) bytes)
      (front_lawful c.asks_lawfully.ensures (λ text line is. (c.one_spelling.ensures.reads text line is).0)
      bytes lines later parts);
}
