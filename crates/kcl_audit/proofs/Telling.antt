-- What holds of an audit at its end, from how the reading of its input ended.
use Rattle.std.proofs.Common.{◌≡◌, ℕ, Bool, true, false, List, [], ◌∷◌, ◌++◌, Option, refl, sym, ap, ◌∙◌, subst}
use Rattle.std.proofs.lemmas.List.{append_assoc, append-nil}
use Rattle.std.specs.Io.KnownBytes.{Appends}
use Rattle.std.proofs.KnownBytes.{Appends-trans}
use Rattle.kds_ends.specs.Causes.{AppendsFront}
use Rattle.kds_ends.specs.declared.status.Status.{Status}
use Rattle.kds_ends.specs.declared.status.Status.TheVariants as status
use Rattle.kds_lines.specs.Lines.{lined}
use Rattle.kcl_audit.specs.Progress.{audit_of, finish, progress}
use Rattle.kcl_audit.specs.Text.{audit_text, report}
use Rattle.kcl_audit.specs.Stages.{end_by, is_bad}
use Rattle.kcl_audit.specs.Audited.{TellsAudit, TellsEnd}
use Rattle.kcl_audit.proofs.Ends.{bad_is, ended, found_in, sound_is, unreported, unsound_is}

-- ---- Known bytes

empty_front : (xs ys : List ℕ) → [] ≡ xs ++ ys → xs ≡ []
empty_front [] ys h = refl
empty_front (x ∷ xs) ys h = absurd cc

-- ---- Along the lines

-- `texts` were taken and `rest` not; of their output `front` was written and `back` not.
module _ (bytes : List ℕ) (texts rest : List (List ℕ)) (front back : List ℕ) (held mid : Option (List ℕ))
    (parts : (lined bytes).texts ≡ texts ++ rest) (output : report (progress texts) ≡ front ++ back)
    (written : Appends held mid front) where
  front_told : AppendsFront held mid (audit_text (audit_of bytes))
  front_told = either (is_bad (progress texts)) refl
    where
      either : (b : Bool) → is_bad (progress texts) ≡ b → AppendsFront held mid (audit_text (audit_of bytes))
      either true h =
          let b = bad_is (progress texts) h in (
            front,
            back,
            ap audit_text (found_in bytes texts rest b.0 b.1 parts b.2) ∙ sym (ap report b.2) ∙ output,
            written,
          )
      either false h =
          let none = empty_front front back (sym (unreported (progress texts) h) ∙ output) in
          (front, audit_text (audit_of bytes), ap (λ z. z ++ audit_text (audit_of bytes)) (sym none), written)

  pub write_tells : TellsAudit status.Write bytes held mid
  write_tells = front_told

  pub memory_tells : TellsAudit status.Memory bytes held mid
  memory_tells = front_told

  -- All of the output along the lines was written.
  module _ (all : back ≡ []) where
    reported : report (progress texts) ≡ front
    reported = output ∙ ap (λ z. front ++ z) all ∙ append-nil front

    pub bad_tells : is_bad (progress texts) ≡ true → TellsAudit status.Unsound bytes held mid
    bad_tells h =
        let b = bad_is (progress texts) h in
        let a = found_in bytes texts rest b.0 b.1 parts b.2 in (
          b.0,
          b.1,
          a,
          subst (λ (z : List ℕ). Appends held mid z) (sym reported ∙ ap report b.2 ∙ ap audit_text (sym a))
              written,
        )

    nothing : is_bad (progress texts) ≡ false → Appends held mid []
    nothing h = subst (λ (z : List ℕ). Appends held mid z) (sym reported ∙ unreported (progress texts) h) written

    pub read_tells : is_bad (progress texts) ≡ false → TellsAudit status.Read bytes held mid
    read_tells h = nothing h

    -- ---- At the end of the lines

    -- All lines were taken, and `b` says whether the bytes end inside a line.
    module _ (b : Bool) (now : Option (List ℕ)) (none : rest ≡ []) (is : (lined bytes).end ≡ end_by b) where
      said : audit_of bytes ≡ finish (progress texts) (end_by b)
      said = ended bytes texts rest (end_by b) parts none is

      whole_text : (added : List ℕ) → report (progress texts) ++ added ≡ audit_text (finish (progress texts) (end_by b))
          → front ++ added ≡ audit_text (audit_of bytes)
      whole_text added text = ap (λ z. z ++ added) (sym reported) ∙ text ∙ ap audit_text (sym said)

      wrote_all : (added : List ℕ) → report (progress texts) ++ added ≡ audit_text (finish (progress texts) (end_by b))
          → Appends mid now added
          → Appends held now (audit_text (audit_of bytes))
      wrote_all added text w =
          subst (λ (z : List ℕ). Appends held now z) (whole_text added text)
          (Appends-trans held mid now front added written w)

      -- The status at the audit's end holds for the whole audit.
      pub end_tells : (s : Status) → TellsEnd s (finish (progress texts) (end_by b)) (report (progress texts)) mid now
          → TellsAudit s bytes held now
      end_tells status.Done t =
          let n = sound_is (finish (progress texts) (end_by b)) t.0 in
          (n.0, said ∙ n.1, wrote_all t.1.0 t.1.1 t.1.2)
      end_tells status.Unsound t =
          let n = unsound_is (progress texts) b t.0 in
          (n.0, n.1, said ∙ n.2, wrote_all t.1.0 t.1.1 t.1.2)
      end_tells status.Write t =
          let f = t.2 in (
            front ++ f.0,
            f.1,
            sym (whole_text t.0 t.1) ∙ ap (λ z. front ++ z) f.2 ∙ sym (append_assoc front f.0 f.1),
            Appends-trans held mid now front f.0
                written f.3,
          )
      end_tells status.Memory t =
          let f = front_told in (
            f.0,
            f.1,
            f.2,
            subst (λ (z : List ℕ). Appends held now z) (append-nil f.0)
                (Appends-trans held mid now f.0 [] f.3 t),
          )
      end_tells _ t = absurd t
