use Rattle.std.proofs.Common.{rules}
use Rattle.kcl_sim_scribe.proofs.scribe.Scribe.note_created.Goals as goal

pub returns-clause-ok : goal.returns-clause-ok
returns-clause-ok c = search rules
