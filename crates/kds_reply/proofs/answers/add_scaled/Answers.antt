use Rattle.kds_reply.proofs.Plain.{scaled_plain}
use Rattle.kds_reply.proofs.answers.add_scaled.Goals as goal

pub add_value-requires : goal.add_value-requires
add_value-requires c = rw c.in_ok-value.ensures (scaled_plain _ _ _)
