-- A pass into which other passes, with consecutive numbers, were joined.
use Rattle.std.proofs.Common.{◌≡◌, ℕ, ◌+◌, ◌<◌, ◌≤◌, List, [], ◌∷◌, ◌++◌, sym, ap, ◌∙◌, subst, arith, length}
use Rattle.std.proofs.Common.{length-append}
use mathlib.Core.Logic.{dite}
use native.Mathlib.Decide.{ℕ_discrete}
use Rattle.std.specs.List.{All}
use Rattle.std.proofs.lemmas.List.{get_or_append_left}
use Rattle.atomic_table.specs.Seated.{TableId}
use Rattle.kds_turn.specs.Known.{has, times, account}
use Rattle.kds_turn.specs.Passes.{PassValue, accounts_of}
use Rattle.kds_turn.proofs.Turns.{has_one, times_append}

-- Each number from `least` to `last` is that of an account of the pass.
abbrev pub HasFrom : ℕ → ℕ → PassValue → Type 0
HasFrom least last p = (n : ℕ) → least ≤ n → n ≤ last → 0 < times n (accounts_of p)

pub has_more : (least actor last : ℕ) (p q r : PassValue) → actor + 1 ≡ least → q.by ≡ actor → r.by ≡ p.by
    → r.joined ≡ p.joined ++ accounts_of q → HasFrom least last p → HasFrom actor last r
has_more least actor last p q r e f same joined is_from = λ n a b.
    let all : times n r.joined ≡ times n p.joined + times n (accounts_of q) =
    ap (times n) joined ∙ times_append n p.joined (accounts_of q) in
    let own : has n (account r.by r.own) ≡ has n (account p.by p.own) = ap (λ (k : ℕ). has n (account k [])) same in
    dite (ℕ_discrete actor n)
    (λ is. let one = has_one n (account q.by q.own) (f ∙ is) in omega arith)
    (λ ne. let earlier = is_from n (omega arith) b in omega arith)

-- If all passes belong to the hall, so do those before the last one.
pub all_front : (id : TableId) (all xs : List PassValue) (x : PassValue) → all ≡ xs ++ x ∷ []
    → All (λ p. p.hall ≡ id) all
    → All (λ p. p.hall ≡ id) xs
all_front id all xs x e is_of = λ k d below.
    let longer : k < length (xs ++ x ∷ []) = omega (arith, below, length-append xs (x ∷ [])) in
    let h = subst (λ (l : List PassValue). All (λ p. p.hall ≡ id) l) e is_of k d longer in
    ap (λ (p : PassValue). p.hall) (sym (get_or_append_left xs (x ∷ []) d k below)) ∙ h
