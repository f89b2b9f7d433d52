use Rattle.kcl_drill_laws.proofs.Horizons.{made_so}
use Rattle.kcl_drill_laws.proofs.histories.horizon.Goals as goal

pub returns : goal.returns
returns c actor made past is_from = made_so made is_from actor past
