use Rattle.kcl_laws.proofs.CheckpointLemmas.{checkpoint_reached, horizon_floor}
use Rattle.kcl_laws.proofs.LegalLemmas.{journals}
use Rattle.kcl_laws.proofs.checkpoints.Goals as goal

pub returns : goal.returns
returns c =
    record {
      floor = λ h lawful key r is. horizon_floor _ (journals h lawful).legal key r is.0 is.1;
      reached = λ h lawful key r q is is_at. checkpoint_reached _ (journals h lawful).legal key r q is.0 is.1 is_at;
    }
