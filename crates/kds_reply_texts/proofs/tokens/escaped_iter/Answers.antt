use Rattle.std.proofs.Common.{sym, ◌∙◌, rules}
use Rattle.kds_token.specs.Tokens.{IsIter}
use Rattle.kds_reply_texts.proofs.TokenTexts.{token_plain}
use Rattle.kds_reply_texts.proofs.tokens.escaped_iter.Goals as goal

pub returns : goal.returns
returns c =
    let is : IsIter c.args.iter.now = search rules in
    c.in_ok-token.ensures ∙ sym (token_plain c.args.iter.now is)
