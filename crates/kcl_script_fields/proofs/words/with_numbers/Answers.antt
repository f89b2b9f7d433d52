use Rattle.std.proofs.Common.{rules, ◌++◌, ◌∷◌, decimal, subst, append_assoc}
use Rattle.kcl_script_fields.specs.Fields.{AddsFront}
use Rattle.kcl_script_fields.proofs.Fronts.{adds_first}
use Rattle.kcl_script_fields.proofs.words.with_numbers.Goals as goal

pub returns-in_err-with_number-clause-err : goal.returns-in_err-with_number-clause-err
returns-in_err-with_number-clause-err c =
    let text = c.args.word.now ++ 32 ∷ decimal c.args.n in
    let more = 32 ∷ decimal c.args.m in
    let first : AddsFront c.args.to.now c.with_number.new.to text = search rules in
    let both = subst (AddsFront c.args.to.now c.with_number.new.to)
    (append_assoc c.args.word.now (32 ∷ decimal c.args.n) more)
    (adds_first c.args.to.now c.with_number.new.to text more first) in
    search (rules, both)
