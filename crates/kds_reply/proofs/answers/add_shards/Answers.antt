use Rattle.kds_reply.proofs.Plain.{shards_plain}
use Rattle.kds_reply.proofs.answers.add_shards.Goals as goal

pub add_value-requires : goal.add_value-requires
add_value-requires c = rw c.in_ok-value.ensures (shards_plain _ _)
