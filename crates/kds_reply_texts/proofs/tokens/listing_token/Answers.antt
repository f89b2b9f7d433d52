use Rattle.std.proofs.Common.{◌≡◌, ◌∙◌, rules}
use Rattle.kds_token.specs.Tokens.{page_text, page_token}
use Rattle.kds_reply_texts.proofs.TokenTexts.{encoded_is_text}
use Rattle.kds_reply_texts.proofs.tokens.listing_token.Goals as goal

pub returns : goal.returns
returns c =
    let is : c.as_slice.result.now ≡ page_token c.args.page.now = search rules in
    c.in_ok-from_utf8_lossy.ensures.ok (rw is (encoded_is_text (page_text c.args.page.now))) ∙ is
