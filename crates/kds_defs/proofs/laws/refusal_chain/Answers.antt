use Rattle.kds_defs.proofs.Decisions.{passed_if, passes, refused_if, same_lines}
use Rattle.kds_defs.proofs.laws.refusal_chain.Goals as goal

pub returns : goal.returns
returns c =
    record {
      refused = refused_if;
      passed = passed_if;
      fails = λ r b d lines reply h. (passes r b d lines reply h).0;
      rest = λ r b d lines reply h. (passes r b d lines reply h).1;
      lines = same_lines;
    }
