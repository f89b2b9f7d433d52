use Rattle.std.proofs.Common.{sym, arith}
use Rattle.kds_token.proofs.FieldLemmas.{field_found, field_nowhere}
use Rattle.kds_token.proofs.fields.split_at_colon.Goals as goal

pub returns-in-Some : goal.returns-in-Some
returns-in-Some c = rw (c.split_at.ensures.front, c.split_at-in-Some.ensures.back)
    (sym (field_found c.args.text.now c.in-Some.at c.in-Some.ensures))

pub returns-in-None : goal.returns-in-None
returns-in-None c = sym (field_nowhere c.args.text.now (λ k lt. c.in-None.ensures k (omega arith) lt))
