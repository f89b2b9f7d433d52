-- The passes of the workers are joined into the root's pass, one after another.
use Rattle.std.proofs.Common.{◌≡◌, suc, List, ◌∷◌, ◌++◌, sym, ap, subst, ◌∙◌, arith, append_assoc}
use Rattle.std.specs.Prelude.{flat_map}
use Rattle.std.specs.List.{All}
use Rattle.kds_turn.specs.declared.view.Account.{Account}
use Rattle.kcl_live.specs.declared.crew.Member.{Member}
use Rattle.kcl_drill_run.specs.Running.{accounts_in}

module _ {M P F G : Type 0} where
  -- After one more join, the accounts joined and the accounts of the remaining workers are still all accounts.
  pub joined_more : (old now total : List Account) (m : Member M P F G) (rest items : List (Member M P F G))
      → now ≡ old ++ accounts_in m → items ≡ m ∷ rest
      → old ++ flat_map accounts_in items ≡ total → now ++ flat_map accounts_in rest ≡ total
  joined_more old now total m rest items e step is_before =
      ap (λ xs. xs ++ flat_map accounts_in rest) e
      ∙ append_assoc old (accounts_in m) (flat_map accounts_in rest)
      ∙ ap (λ ms. old ++ flat_map accounts_in ms) (sym step)
      ∙ is_before

  pub all_rest : (Q : Member M P F G → Type 0) (m : Member M P F G) (rest items : List (Member M P F G))
      → items ≡ m ∷ rest → All Q items → All Q rest
  all_rest Q m rest items step all = λ k d below. (subst (All Q) step all) (suc k) d (omega arith)
