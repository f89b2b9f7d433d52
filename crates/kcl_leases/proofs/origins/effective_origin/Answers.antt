use Rattle.std.proofs.Common.{rules}
use Rattle.kcl_leases.proofs.origins.effective_origin.Goals as goal

pub returns-then-parent_reaches : goal.returns-then-parent_reaches
returns-then-parent_reaches c = search rules
