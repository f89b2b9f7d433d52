use Rattle.std.proofs.Common.{rules}
use Rattle.kds_turn.proofs.hall.Hall.tell.Goals as goal

pub returns-clause-note : goal.returns-clause-note
returns-clause-note c = search rules
