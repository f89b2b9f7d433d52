use Rattle.std.proofs.Common.{rules}
use Rattle.kds_turn.proofs.hall.Hall.join.Goals as goal

pub returns-clause-joined : goal.returns-clause-joined
returns-clause-joined c = search rules
