use Rattle.std.proofs.Common.{rules}
use Rattle.kcl_drill.proofs.records.payload.Goals as goal

pub returns : goal.returns
returns c = search rules
