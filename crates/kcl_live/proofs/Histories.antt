-- The turns of one actor in a history, and in longer histories.
use Rattle.std.proofs.Common.{◌≡◌, ℕ, ◌≤◌, Bool, true, false, List, [], ◌∷◌, ◌++◌, length, refl, sym, ap, ◌∙◌, arith}
use Rattle.std.specs.Prelude.{◌==◌, cond, if◌then◌else◌}
use Rattle.kds_base.proofs.Facts.{is_itself}
use Rattle.kds_defs.specs.declared.command.Turn.{Turn}
use Rattle.kds_defs.specs.Histories.{answer}
use Rattle.kcl_defs.specs.Lives.{Deal, deals_of}
use Rattle.kds_turn.specs.Known.{Continues, turns_by}

no_fewer : (actor : ℕ) (newer h : List Turn) → length (turns_by actor h) ≤ length (turns_by actor (newer ++ h))
no_fewer actor [] h = omega arith
no_fewer actor (t ∷ newer) h = one (t.by == actor) (no_fewer actor newer h)
  where
    one : (b : Bool) → length (turns_by actor h) ≤ length (turns_by actor (newer ++ h))
        → length (turns_by actor h) ≤ length (cond b (t ∷ turns_by actor (newer ++ h)) (turns_by actor (newer ++ h)))
    one true le = omega arith
    one false le = le

same_deals : (actor : ℕ) (newer h : List Turn) → length (turns_by actor (newer ++ h)) ≡ length (turns_by actor h)
    → deals_of actor (newer ++ h) ≡ deals_of actor h
same_deals actor [] h e = refl
same_deals actor (t ∷ newer) h e = one (t.by == actor) e (same_deals actor newer h)
  where
    one : (b : Bool) → length (cond b (t ∷ turns_by actor (newer ++ h)) (turns_by actor (newer ++ h)))
        ≡ length (turns_by actor h)
        → (length (turns_by actor (newer ++ h)) ≡ length (turns_by actor h)
        → deals_of actor (newer ++ h) ≡ deals_of actor h)
        → (if b then record { what = t.what; answer = answer (newer ++ h) t }
        ∷ deals_of actor (newer ++ h) else deals_of actor (newer ++ h)) ≡ deals_of actor h
    one true e rest = absurd (omega (arith, e, no_fewer actor newer h))
    one false e rest = rest e

pub before_own : (t : Turn) (older own : List Turn) → turns_by t.by (t ∷ older) ≡ t ∷ own → turns_by t.by older ≡ own
before_own t older own e =
    let same : t ∷ turns_by t.by older ≡ t ∷ own =
    sym (ap (λ b. cond b (t ∷ turns_by t.by older) (turns_by t.by older)) (is_itself t.by)) ∙ e in
    cc (same)

-- One more turn of the actor adds the turn's command and answer.
pub told_more : (t : Turn) (older own h : List Turn) (deals : List Deal) → turns_by t.by (t ∷ older) ≡ t ∷ own
    → Continues h (t ∷ older) → turns_by t.by h ≡ t ∷ own → deals_of t.by older ≡ deals
    → deals_of t.by h ≡ record { what = t.what; answer = answer older t } ∷ deals
told_more t older own h deals all c alone is_told =
    let same : length (turns_by t.by (c.0 ++ (t ∷ older))) ≡ length (turns_by t.by (t ∷ older)) =
    ap length (sym (ap (turns_by t.by) c.1) ∙ alone ∙ sym all) in
    ap (deals_of t.by) c.1 ∙ same_deals t.by c.0 (t ∷ older) same
    ∙ ap (λ b. if b then record { what = t.what; answer = answer older t }
    ∷ deals_of t.by older else deals_of t.by older) (is_itself t.by)
    ∙ ap (λ (ds : List Deal). record { what = t.what; answer = answer older t } ∷ ds) is_told

pub none_told : (actor : ℕ) (h : List Turn) → turns_by actor h ≡ [] → deals_of actor h ≡ []
none_told actor [] e = refl
none_told actor (t ∷ h) e = one (t.by == actor) e (none_told actor h)
  where
    one : (b : Bool) → cond b (t ∷ turns_by actor h) (turns_by actor h) ≡ []
        → (turns_by actor h ≡ [] → deals_of actor h ≡ [])
        → (if b then record { what = t.what; answer = answer h t } ∷ deals_of actor h else deals_of actor h) ≡ []
    one true e rest = absurd cc
    one false e rest = rest e
