use Rattle.std.proofs.Common.{◌++◌, List, ℕ, take, ap, sym, ◌∙◌, rules}
use Rattle.kds_reply_texts.proofs.PlainTexts.{escape-decimal}
use Rattle.kds_reply_texts.proofs.overwriting.write_digits.Goals as goal

pub returns-clause-text : goal.returns-clause-text
returns-clause-text c =
    c.write_decimal.ensures.text
    ∙ ap (λ (text : List ℕ). take c.args.at c.args.buffer.now ++ text) (sym (escape-decimal c.args.n (search rules)))
