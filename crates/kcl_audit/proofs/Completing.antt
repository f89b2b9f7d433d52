-- Without I/O faults the bytes decide an audit's status, unless memory runs out.
use Rattle.std.proofs.Common.{◌≡◌, ◌≤◌, ℕ, List, Option, Some, None, refl, sym, ap, inl, inr, arith}
use Rattle.std.specs.Prelude.{◌⊎◌}
use Rattle.std.specs.Option.{IfSome}
use Rattle.kds_ends.specs.Causes.{Rose}
use Rattle.kds_ends.specs.declared.status.Status.{Status}
use Rattle.kds_ends.specs.declared.status.Status.TheVariants as status
use Rattle.kds_lines.specs.declared.outcome.Outcome.{Outcome}
use Rattle.kds_lines.specs.declared.outcome.Outcome.TheVariants as outcome
use Rattle.kcl_audit.specs.Audited.{AuditsAs, TellsAudit, audit_status}

by_bytes : (s : Status) (bytes : List ℕ) (held now : Option (List ℕ)) → (s ≡ status.Read → ⊥) → (s ≡ status.Write → ⊥)
    → TellsAudit s bytes held now
    → AuditsAs bytes s
by_bytes status.Done bytes held now read write t = inl (sym (ap audit_status t.1))
by_bytes status.Unsound bytes held now read write t = inl (sym (ap audit_status t.2))
by_bytes status.TooLong bytes held now read write t = inl (sym (ap audit_status t.0))
by_bytes status.Read bytes held now read write t = absurd (read refl)
by_bytes status.Write bytes held now read write t = absurd (write refl)
by_bytes status.Memory bytes held now read write t = inr refl
by_bytes _ bytes held now read write t = absurd t

-- `by_bytes` for bytes that may be unknown.
pub completes : (s : Status) (all held now : Option (List ℕ)) → (s ≡ status.Read → ⊥) → (s ≡ status.Write → ⊥)
    → IfSome all (λ bytes. TellsAudit s bytes held now)
    → IfSome all (λ bytes. AuditsAs bytes s)
completes s None held now read write t = tt
completes s (Some bytes) held now read write t = by_bytes s bytes held now read write t

-- A write that failed along the lines or after them raised the sink's faults.
pub rose_since : (o : Outcome) (a b c : ℕ) → a ≤ b → b ≤ c → (o ≡ outcome.Write → Rose a b) → (o ≡ outcome.Write)
    ⊎ Rose b c → Rose a c
rose_since o a b c ab bc along (inl w) = let r : Rose a b = along w in omega arith
rose_since o a b c ab bc along (inr r) = omega arith
