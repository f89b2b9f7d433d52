use Rattle.kcl_drill_laws.proofs.Leased.{live_stays, floor_stays}
use Rattle.kcl_drill_laws.proofs.answers.lease_floors.Goals as goal

pub returns : goal.returns
returns c = λ more h d are le. record { live = live_stays more h are; floors = floor_stays more h d are le }
