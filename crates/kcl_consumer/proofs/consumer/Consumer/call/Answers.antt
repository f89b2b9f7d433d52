use Rattle.std.proofs.Common.{rules}
use Rattle.kcl_consumer.proofs.StandLemmas.{called}
use Rattle.kcl_consumer.proofs.StandLemmas.{kept}
use Rattle.kcl_consumer.proofs.consumer.Consumer.call.Goals as goal

pub returns-in_ok-lease_lost-in-Leaving-clause-ok : goal.returns-in_ok-lease_lost-in-Leaving-clause-ok
returns-in_ok-lease_lost-in-Leaving-clause-ok c = search (rules, called, kept)
