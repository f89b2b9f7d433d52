-- Done shows that the state after the text's journal is safe; Unsound, that no legal journal has the text.
use Rattle.std.proofs.Common.{◌≡◌, ℕ, List, Option, Some, None, sym, ◌∙◌}
use Rattle.std.specs.Option.{IfSome}
use Rattle.kds_defs.specs.Journal.{Journal}
use Rattle.kds_defs.specs.Legal.{IsReached}
use Rattle.kds_defs.specs.Safe.{IsSafe}
use Rattle.kds_ends.specs.declared.status.Status.TheVariants as status
use Rattle.kcl_audit_streams.specs.declared.rule.Rule.{Rule}
use Rattle.kcl_audit.specs.Progress.{audit_of, over, sound, unsound}
use Rattle.kcl_audit.specs.Text.{IsJournal, journal_of}
use Rattle.kcl_audit.specs.Audited.{IsNoJournal, IsSafely, TellsAudit}

pub some_so : {P Q : List ℕ → Type 0} (o : Option (List ℕ)) → IfSome o P → ((b : List ℕ) → P b → Q b) → IfSome o Q
some_so None p f = tt
some_so (Some b) p f = f b p

-- Assumes that sound texts are legal journals, and that states after these are safe.
pub safely : ((bytes : List ℕ) (n : ℕ) → audit_of bytes ≡ sound n → IsJournal bytes n)
    → ((log : Journal) (c : ℕ) → IsReached log c → IsSafe log c)
    → (bytes : List ℕ) (held now : Option (List ℕ)) → TellsAudit status.Done bytes held now → IsSafely bytes
safely legal safe bytes held now t =
    let j = legal bytes t.0 t.1 in
    record {
      count = t.0;
      journal = j;
      safe = safe (journal_of j.entries) j.end (record { legal = j.legal; order = j.order });
    }

never_over : (bytes : List ℕ) (n : ℕ) (r : Rule) → audit_of bytes ≡ unsound n r → audit_of bytes ≡ over → ⊥
never_over bytes n r is too = let e : unsound n r ≡ over = sym is ∙ too in absurd cc

never_both : (bytes : List ℕ) (n m : ℕ) (r : Rule) → audit_of bytes ≡ unsound n r → audit_of bytes ≡ sound m → ⊥
never_both bytes n m r is so = let e : unsound n r ≡ sound m = sym is ∙ so in absurd cc

-- Assumes that an audit finds legal journals good unless a length is too great.
pub no_journal : ((bytes : List ℕ) (n : ℕ) → IsJournal bytes n → (audit_of bytes ≡ over → ⊥) → audit_of bytes ≡ sound n)
    → (bytes : List ℕ) (held now : Option (List ℕ)) → TellsAudit status.Unsound bytes held now → IsNoJournal bytes
no_journal sounds bytes held now t n j =
    never_both bytes t.0 n t.1 t.2 (sounds bytes n j (never_over bytes t.0 t.1 t.2))
