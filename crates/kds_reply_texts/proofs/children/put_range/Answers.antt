use Rattle.std.proofs.Common.{◌++◌, List, ap, ◌∙◌, rules}
use Rattle.json.specs.Token.{Token}
use Rattle.kds_base.specs.Span.{Span}
use Rattle.kds_reply_texts.proofs.Joined.{more, range_tokens}
use Rattle.kds_reply_texts.proofs.children.put_range.Goals as goal

pub returns : goal.returns
returns c = record {
  ok =
      let t = c.args.out.now.tokens in
      let two = more t c.begin_object.new.out.tokens c.put_hash_key.new.out.tokens _ _ c.in_ok-begin_object.ensures.ok
      c.in_ok-put_hash_key.ensures.ok in
      let three = more t c.put_hash_key.new.out.tokens c.put_hash_key-2.new.out.tokens _ _ two
      c.in_ok-put_hash_key-2.ensures.ok in
      let four = more t c.put_hash_key-2.new.out.tokens c.end_object.new.out.tokens _ _ three
      c.in_ok-end_object.ensures.ok in
      four ∙ ap (λ (ts : List Token). t ++ ts)
      (range_tokens c.args.range.now c.range.inside.end c.range.inside.start
      (ap (λ (r : Span). r.end) c.range.view_is) (ap (λ (r : Span). r.start) c.range.view_is));
  before = search rules;
}
