use Rattle.kds_reply.proofs.Plain.{described_plain}
use Rattle.kds_reply.proofs.answers.add_described.Goals as goal

pub add_value-requires : goal.add_value-requires
add_value-requires c = rw c.in_ok-value.ensures (described_plain _ _ _)
