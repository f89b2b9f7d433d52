use Rattle.std.proofs.Common.{rules}
use Rattle.kcl_proc.proofs.tally.TallyProcessor.process_records.Goals as goal

pub returns-clause-called : goal.returns-clause-called
returns-clause-called c = search rules

pub returns-clause-asked : goal.returns-clause-asked
returns-clause-asked c = search rules
