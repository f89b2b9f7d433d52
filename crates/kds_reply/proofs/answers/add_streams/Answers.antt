use Rattle.kds_reply.proofs.Plain.{streams_plain}
use Rattle.kds_reply.proofs.answers.add_streams.Goals as goal

pub add_value-requires : goal.add_value-requires
add_value-requires c = rw c.in_ok-value.ensures (streams_plain _ _)
