-- Without failing ends, a replay ends as its bytes decide, serving with Memory, and a drill with Done or Memory.
use Rattle.std.proofs.Common.{◌≡◌, ℕ, Bool, true, false, List, Option, Some, None, refl, sym, ap, inl, inr}
use Rattle.std.specs.Option.{IfSome}
use Rattle.kcl_drill_run.specs.Told.{DrillTells}
use Rattle.kds_ends.specs.declared.status.Status.{Status}
use Rattle.kds_ends.specs.declared.status.Status.TheVariants.{Done, BadLine, Read, Write, Memory, TooLong, Door}
use Rattle.kds_cli_runs.specs.Completed.{EndsBy, ReplaysAs, replay_status}
use Rattle.kds_cli_runs.specs.Ends.{ReplayTells, ServeTells}

module _ (bytes : List ℕ) (left held now : Option (List ℕ)) where
  by_bytes : (journal : Bool) (status : Status) → (status ≡ Read → ⊥) → (status ≡ Write → ⊥)
      → ReplayTells journal status bytes left held now → ReplaysAs bytes status
  by_bytes false Done read write t = inl (sym (ap replay_status t.0))
  by_bytes false (BadLine n) read write t = inl (sym (ap replay_status t.0))
  by_bytes false TooLong read write t = inl (sym (ap replay_status t.0))
  by_bytes true Done read write t = inl (sym (ap replay_status t.0))
  by_bytes true (BadLine n) read write t = inl (sym (ap replay_status t.0))
  by_bytes true TooLong read write t = inl (sym (ap replay_status t.0))
  by_bytes journal Read read write t = absurd (read refl)
  by_bytes journal Write read write t = absurd (write refl)
  by_bytes journal Memory read write t = inr refl
  by_bytes false _ read write t = absurd t
  by_bytes true _ read write t = absurd t

pub replays : (journal : Bool) (status : Status) (all left held now : Option (List ℕ)) → (status ≡ Read → ⊥)
    → (status ≡ Write → ⊥)
    → IfSome all (λ bytes. ReplayTells journal status bytes left held now)
    → IfSome all (λ bytes. ReplaysAs bytes status)
replays journal status None left held now read write t = tt
replays journal status (Some bytes) left held now read write t =
    by_bytes bytes left held now journal status read write t

pub serves : (status : Status) (held now : Option (List ℕ)) (listens : Type 0) → (status ≡ Write → ⊥)
    → (status ≡ Door → ⊥) → ServeTells status held now listens → status ≡ Memory
serves Memory held now listens write door t = refl
serves Write held now listens write door t = absurd (write refl)
serves Door held now listens write door t = absurd (door refl)
serves _ held now listens write door t = absurd t

pub drills : (status : Status) (number records : ℕ) (held now : Option (List ℕ)) → (status ≡ Write → ⊥)
    → DrillTells status number records held now → EndsBy Done status
drills Done number records held now write t = inl refl
drills Memory number records held now write t = inr refl
drills Write number records held now write t = absurd (write refl)
drills _ number records held now write t = absurd t
