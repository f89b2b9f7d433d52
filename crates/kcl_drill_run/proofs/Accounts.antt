-- The accounts of the workers of a drill, and the numbers of their passes.
use Rattle.std.proofs.Common.{◌≡◌, ℕ, zero, suc, ◌+◌, ◌<◌, ◌≤◌, List, [], ◌∷◌, ◌++◌, length, map, refl, ap, ◌∙◌, arith}
use Rattle.std.specs.Prelude.{flat_map}
use Rattle.std.specs.List.{All, AllByRecursion}
use mathlib.Core.Logic.{dite}
use native.Mathlib.Decide.{ℕ_discrete}
use Rattle.kds_turn.specs.declared.view.Account.{Account}
use Rattle.kds_turn.specs.Known.{account, times}
use Rattle.kds_turn.specs.Passes.{HallValue, PassValue}
use Rattle.kds_turn.proofs.Turns.{has_one}
use Rattle.kcl_drill_laws.specs.Closed.{all_accounts}
use Rattle.kcl_live.specs.declared.crew.Member.{Member}
use Rattle.kcl_drill_run.specs.Running.{HavePasses, account_in, accounts_in}

-- The accounts have the numbers from `start` on, in order.
abbrev pub CountFrom : ℕ → List Account → Type 0
CountFrom start [] = Unit {0}
CountFrom start (a ∷ xs) = (a.by ≡ start) × CountFrom (start + 1) xs

module _ {M P F G : Type 0} (hall : HallValue) where
  pub each_alone : (start : ℕ) (ms : List (Member M P F G)) → HavePasses hall start ms
      → flat_map accounts_in ms ≡ map account_in ms
  each_alone start [] are = refl
  each_alone start (m ∷ ms) are =
      ap (λ (xs : List Account). (account m.pass.by m.pass.own ∷ xs) ++ flat_map accounts_in ms) are.0.alone
      ∙ ap (λ (xs : List Account). account m.pass.by m.pass.own ∷ xs) (each_alone (start + 1) ms are.1)

  pub counted : (start : ℕ) (ms : List (Member M P F G)) → HavePasses hall start ms
      → CountFrom start (map account_in ms)
  counted start [] are = tt
  counted start (m ∷ ms) are = (are.0.by, counted (start + 1) ms are.1)

  pub all_there : (start : ℕ) (ms : List (Member M P F G)) → HavePasses hall start ms
      → All (λ m. m.pass.hall ≡ hall.id) ms
  all_there start [] are k d below = absurd (omega arith)
  all_there start (m ∷ ms) are zero d below = are.0.at
  all_there start (m ∷ ms) are (suc k) d below = all_there (start + 1) ms are.1 k d (omega arith)

module _ {M P F G : Type 0} where
  pub count_accounts : (ms : List (Member M P F G)) → length (map account_in ms) ≡ length ms
  count_accounts [] = refl
  count_accounts (m ∷ ms) = ap suc (count_accounts ms)

  pub of_accounts : (Q : Account → Type 0) (ms : List (Member M P F G)) → AllByRecursion (λ m. Q (account_in m)) ms
      → AllByRecursion Q (map account_in ms)
  of_accounts Q [] is_of = tt
  of_accounts Q (m ∷ ms) is_of = (is_of.0, of_accounts Q ms is_of.1)

-- ---- Each number of a pass has an account

has_some : (start n : ℕ) (xs : List Account) → CountFrom start xs → start ≤ n → n < start + length xs → 0 < times n xs
has_some start n [] are least most = absurd (omega arith)
has_some start n (a ∷ xs) are least most =
    dite (ℕ_discrete start n)
    (λ is. let one = has_one n a (are.0 ∙ is) in omega arith)
    (λ ne. let more = has_some (start + 1) n xs are.1 (omega arith) (omega arith) in
    omega arith)

-- Each number from 1 to the number of passes has an account: 1 the root, 2 the feeder, then the workers.
pub has_each : (root feeder : PassValue) (xs : List Account) → root.by ≡ 1 → feeder.by ≡ 2 → CountFrom 3 xs
    → (n : ℕ) → 0 < n → n ≤ length xs + 2 → 0 < times n (all_accounts root feeder xs)
has_each root feeder xs first second are n least most =
    dite (ℕ_discrete 1 n)
    (λ is. let one = has_one n (account root.by root.own) (first ∙ is) in omega arith)
    (λ not1. dite (ℕ_discrete 2 n)
    (λ is. let one = has_one n (account feeder.by feeder.own) (second ∙ is) in omega arith)
    (λ not2. let more = has_some 3 n xs are (omega arith) (omega arith) in
    omega arith))
