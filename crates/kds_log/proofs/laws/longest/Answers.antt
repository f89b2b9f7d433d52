use Rattle.kds_log.proofs.BatchLemmas.{prefix, within, no_longer, some_taken}
use Rattle.kds_log.proofs.laws.longest.Goals as goal

pub returns : goal.returns
returns c = record { prefix = prefix; within = within; no_longer = no_longer; some = some_taken }
