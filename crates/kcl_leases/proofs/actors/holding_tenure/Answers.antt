use Rattle.std.proofs.Common.{rules}
use Rattle.kcl_leases.proofs.actors.holding_tenure.Goals as goal

pub returns : goal.returns
returns c = search rules
