use Rattle.std.proofs.Common.{[], refl}
use Rattle.kcl_sim.proofs.keep.NoTurnsKeep.grows.Goals as goal

pub returns : goal.returns
returns c = λ h turn. ([], refl)
