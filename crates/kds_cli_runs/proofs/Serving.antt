-- The status of serving is right for what was written.
use Rattle.std.proofs.Common.{◌≡◌, ℕ, List, subst, inl, Option}
use Rattle.std.specs.Io.KnownBytes.{Appends}
use Rattle.kds_ends.specs.declared.status.Status.{Status}
use Rattle.kds_ends.specs.declared.status.Status.TheVariants.{Door, Memory}
use Rattle.kds_server.specs.Texts.{IsCrewStatus}
use Rattle.kds_cli_runs.specs.Ends.{ServeTells}
use Rattle.kds_cli_runs.specs.Words.{listening}

pub crew_tells : (status : Status) (held now : Option (List ℕ)) (text : List ℕ) (listens : Type 0) → text ≡ listening
    → IsCrewStatus status → Appends held now text → listens
    → ServeTells status held now listens
crew_tells Door held now text listens is kind a does = inl (subst (λ (l : List ℕ). Appends held now l) is a, does)
crew_tells Memory held now text listens is kind a does = inl (subst (λ (l : List ℕ). Appends held now l) is a, does)
crew_tells _ held now text listens is kind a does = absurd kind
