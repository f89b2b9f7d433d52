use Rattle.std.proofs.Common.{rules}
use Rattle.kcl_leases.proofs.origins.floor_from.Goals as goal

pub returns-in-Latest : goal.returns-in-Latest
returns-in-Latest c = search rules
