use Rattle.kcl_drill_laws.proofs.Puts.{few_records}
use Rattle.kcl_drill_laws.proofs.answers.record_counts.Goals as goal

pub returns : goal.returns
returns c = few_records
