use Rattle.std.proofs.Common.{rules}
use Rattle.kcl_take.proofs.observed.Observed.expired.Goals as goal

pub returns-then-ms-since : goal.returns-then-ms-since
returns-then-ms-since c = search rules
