use Rattle.std.proofs.Common.{◌≡◌, ◌∙◌, rules}
use Rattle.kds_token.specs.Tokens.{iter_text, iter_token}
use Rattle.kds_reply_texts.specs.Bodies.{iterator_data}
use Rattle.kds_reply_texts.proofs.Joined.{added, begun, iterator_tokens}
use Rattle.kds_reply_texts.proofs.TokenTexts.{encoded_is_text}
use Rattle.kds_reply_texts.proofs.tokens.iterator_body.Goals as goal

pub text_of-requires : goal.text_of-requires
text_of-requires c =
    let is : c.as_slice.result.now ≡ iter_token c.args.iter.now = search rules in
    rw is (encoded_is_text (iter_text c.args.iter.now))

pub returns : goal.returns
returns c =
    let token : c.text_of.result.now ≡ iter_token c.args.iter.now = search rules in
    let all = added _ _ _ _
    (added _ _ _ _ (begun _ _ _ c.in_ok-out.ensures.nothing c.in_ok-begin_object.ensures.ok)
    c.in_ok-put_text.ensures.ok) c.in_ok-end_object.ensures.ok in
    c.written.ensures (iterator_data c.args.iter.now) (all ∙ iterator_tokens c.args.iter.now _ token)
