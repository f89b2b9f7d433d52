use Rattle.kcl_laws.proofs.TenureLemmas.{begun, never}
use Rattle.kcl_laws.proofs.tenures.Goals as goal

pub returns : goal.returns
returns c =
    record {
      never = never;
      begun = begun;
    }
