use Rattle.std.proofs.Common.{rules}
use Rattle.kds_base.proofs.range.Range.split.Goals as goal

pub returns-then-at-self : goal.returns-then-at-self
returns-then-at-self c = search rules
