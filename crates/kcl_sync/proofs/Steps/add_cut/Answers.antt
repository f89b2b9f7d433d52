use Rattle.std.proofs.Common.{rules}
use Rattle.kcl_sync.proofs.Steps.add_cut.Goals as goal

pub returns : goal.returns
returns c = search rules
