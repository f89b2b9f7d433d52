use Rattle.kds_reply_texts.specs.Bodies.{list_data}
use Rattle.kds_reply_texts.specs.Children.{child_data}
use Rattle.kds_reply_texts.proofs.Joined.{begun}
use Rattle.kds_reply_texts.proofs.children.children_text.Goals as goal

pub returns : goal.returns
returns c = c.written.ensures (list_data child_data c.args.shards.now)
    (begun _ _ _ c.in_ok-out.ensures.nothing c.in_ok-put_children.ensures.ok)
