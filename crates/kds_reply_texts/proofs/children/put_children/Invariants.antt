use Rattle.std.proofs.Common.{◌≡◌, ◌++◌, ◌∷◌, drop, map}
use Rattle.json.specs.Token.{begin_array}
use Rattle.json.specs.Tree.{items_tokens}
use Rattle.serde_json.specs.View.{items_of}
use Rattle.serde_json.specs.Written.{items_outline}
use Rattle.kds_reply_texts.specs.Children.{child_data}
use Rattle.kds_reply_texts.proofs.children.put_children.Given as goal

-- The tokens so far and from the shards to come make the array; the bytes before stay.
abbrev pub invariant-loop-shard : goal.invariant-loop-shard
invariant-loop-shard l = record {
  all : l.out.tokens ++ items_tokens (items_outline (items_of (map child_data (drop l.shard-index l.shards))))
      ≡ l.fn.out.tokens ++ begin_array ∷ items_tokens (items_outline (items_of (map child_data l.shards)));
  before : l.out.before ≡ l.fn.out.before;
}
