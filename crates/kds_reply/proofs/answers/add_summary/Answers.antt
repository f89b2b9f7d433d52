use Rattle.kds_reply.proofs.Plain.{summary_plain}
use Rattle.kds_reply.proofs.answers.add_summary.Goals as goal

pub add_value-requires : goal.add_value-requires
add_value-requires c = rw c.in_ok-value.ensures (summary_plain _ _)
