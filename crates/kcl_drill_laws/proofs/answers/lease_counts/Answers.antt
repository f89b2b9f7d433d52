use Rattle.kcl_drill_laws.proofs.Counts.{all_counted}
use Rattle.kcl_drill_laws.proofs.answers.lease_counts.Goals as goal

pub returns : goal.returns
returns c = all_counted
