use Rattle.std.proofs.Common.{◌≡◌, ◌++◌, List, ap, ◌∙◌, rules}
use Rattle.json.specs.Token.{Token}
use Rattle.kds_defs.specs.Values.{ShardValue}
use Rattle.kds_token.specs.Ids.{shard_id}
use Rattle.kds_reply_texts.proofs.Joined.{more, child_tokens}
use Rattle.kds_reply_texts.proofs.children.put_child.Goals as goal

pub returns : goal.returns
returns c = record {
  ok =
      let s = c.args.shard.now in
      let id : c.as_str.result.now ≡ shard_id s.no = search rules in
      let t = c.args.out.now.tokens in
      let two = more t c.begin_object.new.out.tokens c.put_name.new.out.tokens _ _ c.in_ok-begin_object.ensures.ok
      c.in_ok-put_name.ensures.ok in
      let three = more t c.put_name.new.out.tokens c.put_range.new.out.tokens _ _ two c.in_ok-put_range.ensures.ok in
      let four = more t c.put_range.new.out.tokens c.put_name-2.new.out.tokens _ _ three
      c.in_ok-put_name-2.ensures.ok in
      let five = more t c.put_name-2.new.out.tokens c.put_parents.new.out.tokens _ _ four
      c.in_ok-put_parents.ensures.ok in
      let six = more t c.put_parents.new.out.tokens c.put_text.new.out.tokens _ _ five c.in_ok-put_text.ensures.ok in
      let seven = more t c.put_text.new.out.tokens c.end_object.new.out.tokens _ _ six c.in_ok-end_object.ensures.ok in
      seven ∙ ap (λ (ts : List Token). t ++ ts)
      (child_tokens s c.shard.inside.range c.as_str.result.now (ap (λ (x : ShardValue). x.range) c.shard.view_is) id);
  before = search rules;
}
