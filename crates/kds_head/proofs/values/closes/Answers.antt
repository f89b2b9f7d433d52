use Rattle.std.proofs.Common.{rules}
use Rattle.kds_head.proofs.values.closes.Goals as goal

pub returns-then-minor-eq0 : goal.returns-then-minor-eq0
returns-then-minor-eq0 c = search rules

pub returns-else-minor-eq0 : goal.returns-else-minor-eq0
returns-else-minor-eq0 c = search rules
