use Rattle.kcl_sim.proofs.LawfulLines.{history_lawful, front_lawful, middle_lawful}
use Rattle.kcl_sim.proofs.lawful.Goals as goal

pub returns : goal.returns
returns c = record {
  whole = history_lawful c.asks_lawfully.ensures (λ text line is. (c.one_spelling.ensures.reads text line is).0);
  first = front_lawful c.asks_lawfully.ensures (λ text line is. (c.one_spelling.ensures.reads text line is).0);
  part = middle_lawful c.asks_lawfully.ensures (λ text line is. (c.one_spelling.ensures.reads text line is).0);
}
