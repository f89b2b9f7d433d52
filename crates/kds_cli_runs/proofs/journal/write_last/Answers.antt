use Rattle.std.proofs.Common.{rules}
use Rattle.kds_cli_runs.proofs.journal.write_last.Goals as goal

pub returns-in-Ok-write_all-clause-told : goal.returns-in-Ok-write_all-clause-told
returns-in-Ok-write_all-clause-told c = search rules
