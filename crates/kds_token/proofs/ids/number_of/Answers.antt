use Rattle.std.proofs.Common.{◌≡◌, ◌∙◌, drop, rules}
use Rattle.kds_token.proofs.IdLemmas.{tail_read}
use Rattle.kds_token.proofs.ids.number_of.Goals as goal

pub returns : goal.returns
returns c = λ n small e.
    let cut : c.in_ok-digits.digits.now ≡ drop 8 c.args.text.now = search rules in
    c.read_digits.ensures ∙ tail_read c.args.text.now c.in_ok-digits.digits.now n cut e small
