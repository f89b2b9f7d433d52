use Rattle.kcl_consumer.proofs.WaitingLemmas.{never_full}
use Rattle.kcl_consumer.proofs.laws.never_full.Goals as goal

pub returns : goal.returns
returns c = never_full
