use Rattle.std.proofs.Common.{sym, arith}
use Rattle.kcl_script_fields.proofs.Parts.{parted_found, parted_nowhere}
use Rattle.kcl_script_fields.proofs.fields.part.Goals as goal

pub returns-in-Some : goal.returns-in-Some
returns-in-Some c = rw (c.split_at.ensures.front, c.split_at-in-Some.ensures.back)
    (sym (parted_found c.args.sep c.args.text.now c.in-Some.at c.in-Some.ensures))

pub returns-in-None : goal.returns-in-None
returns-in-None c = sym (parted_nowhere c.args.sep c.args.text.now (λ k lt. c.in-None.ensures k (omega arith) lt))
