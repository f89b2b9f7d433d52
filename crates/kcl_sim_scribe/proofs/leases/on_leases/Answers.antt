use Rattle.std.proofs.Common.{rules}
use Rattle.kcl_sim_scribe.proofs.leases.on_leases.Goals as goal

pub returns-in-Leased : goal.returns-in-Leased
returns-in-Leased c = search rules
