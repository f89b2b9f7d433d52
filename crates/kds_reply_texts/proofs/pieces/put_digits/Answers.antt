use Rattle.std.proofs.Common.{◌++◌, List, ℕ, ap, sym, ◌∙◌, rules}
use Rattle.kds_reply_texts.proofs.PlainTexts.{escape-decimal}
use Rattle.kds_reply_texts.proofs.pieces.put_digits.Goals as goal

pub returns-clause-ok : goal.returns-clause-ok
returns-clause-ok c = c.in_ok-put_decimal.ensures.ok
    ∙ ap (λ (text : List ℕ). c.args.out.now.items ++ text) (sym (escape-decimal c.args.n (search rules)))
