use Rattle.std.proofs.Common.{◌++◌, List, ap, ◌∙◌, rules}
use Rattle.json.specs.Token.{Token}
use Rattle.kds_reply_texts.proofs.Joined.{more, error_tokens}
use Rattle.kds_reply_texts.proofs.errors.put_error.Goals as goal

pub returns : goal.returns
returns c = record {
  ok =
      let t = c.args.out.now.tokens in
      let two = more t c.begin_object.new.out.tokens c.put_text.new.out.tokens _ _ c.in_ok-begin_object.ensures.ok
      c.in_ok-put_text.ensures.ok in
      let three = more t c.put_text.new.out.tokens c.put_text-2.new.out.tokens _ _ two c.in_ok-put_text-2.ensures.ok in
      let four = more t c.put_text-2.new.out.tokens c.end_object.new.out.tokens _ _ three
      c.in_ok-end_object.ensures.ok in
      four ∙ ap (λ (ts : List Token). t ++ ts) (error_tokens c.args.name.now c.args.message.now);
  before = search rules;
}
