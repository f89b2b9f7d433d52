-- A history has exactly the turns of its accounts: what is true of these is true of it.
use Rattle.std.proofs.Common.{◌≡◌, ℕ, ◌+◌, ◌<◌, ◌≤◌, max, Bool, true, false, List, [], ◌∷◌, length, refl, sym, ap}
use Rattle.std.proofs.Common.{subst, ◌∙◌, arith}
use Rattle.std.specs.Prelude.{◌==◌, cond}
use Rattle.std.specs.List.{AllByRecursion}
use Rattle.kds_base.proofs.Facts.{swapped}
use Rattle.kds_defs.specs.declared.command.Turn.{Turn}
use Rattle.kds_defs.specs.Histories.{clock}
use Rattle.kds_turn.specs.declared.view.Account.{Account}
use Rattle.kds_turn.specs.Known.{has, times, turns_by}
use Rattle.kds_turn.specs.Passes.{AreAllBy, IsSplitInto}

-- ---- What is true of each turn of each account is true of each turn of the history

-- `P` is true of each turn of `h` whose actor has one of the accounts.
abbrev pub OfEach : (Turn → Type 0) → List Account → List Turn → Type 0
OfEach P accounts h = AllByRecursion (λ a. AllByRecursion P (turns_by a.by h)) accounts

rest_of : (P : Turn → Type 0) (accounts : List Account) (t : Turn) (h : List Turn) → OfEach P accounts (t ∷ h)
    → OfEach P accounts h
rest_of P [] t h is_of = tt
rest_of P (a ∷ rest) t h is_of = (either (t.by == a.by) is_of.0, rest_of P rest t h is_of.1)
  where
    either : (b : Bool) → AllByRecursion P (cond b (t ∷ turns_by a.by h) (turns_by a.by h))
        → AllByRecursion P (turns_by a.by h)
    either true is_of = is_of.1
    either false is_of = is_of

one_here : (P : Turn → Type 0) (b : Bool) (t : Turn) (ts : List Turn) → b ≡ true → AllByRecursion P (cond b (t ∷ ts) ts)
    → P t
one_here P true t ts is mine = mine.0
one_here P false t ts is mine = absurd cc

one_by : (P : Turn → Type 0) (a : Account) (t : Turn) (h : List Turn) (n : ℕ) (b : Bool) → (t.by == a.by) ≡ b
    → AllByRecursion P (cond (t.by == a.by) (t ∷ turns_by a.by h) (turns_by a.by h)) → 0 < has t.by a + n
    → (0 < n → P t) → P t
one_by P a t h n true is mine some later = one_here P (t.by == a.by) t (turns_by a.by h) is mine
one_by P a t h n false is mine some later =
    let none : has t.by a ≡ 0 = ap (λ b. cond b 1 0) (swapped a.by t.by ∙ is) in
    later (omega arith)

one_of : (P : Turn → Type 0) (accounts : List Account) (t : Turn) (h : List Turn) → OfEach P accounts (t ∷ h)
    → 0 < times t.by accounts → P t
one_of P [] t h is_of some = absurd (omega arith)
one_of P (a ∷ rest) t h is_of some =
    one_by P a t h (times t.by rest) (t.by == a.by) refl is_of.0 some (one_of P rest t h is_of.1)

all_of : (P : Turn → Type 0) (accounts : List Account) (h : List Turn) → OfEach P accounts h → AreAllBy accounts h
    → AllByRecursion P h
all_of P accounts [] is_of all = tt
all_of P accounts (t ∷ h) is_of all =
    (one_of P accounts t h is_of all.0, all_of P accounts h (rest_of P accounts t h is_of) all.1)

each_of : (P : Turn → Type 0) (accounts : List Account) (h : List Turn) → IsSplitInto accounts h
    → AllByRecursion (λ a. AllByRecursion P a.turns) accounts
    → OfEach P accounts h
each_of P [] h own is_of = tt
each_of P (a ∷ rest) h own is_of = (subst (AllByRecursion P) (sym own.0) is_of.0, each_of P rest h own.1 is_of.1)

-- What is true of each turn of the accounts is true of each turn of the history.
pub all_turns : (P : Turn → Type 0) (accounts : List Account) (h : List Turn) → IsSplitInto accounts h
    → AreAllBy accounts h
    → AllByRecursion (λ a. AllByRecursion P a.turns) accounts → AllByRecursion P h
all_turns P accounts h own all is_of = all_of P accounts h (each_of P accounts h own is_of) all

-- ---- The number of turns

-- The number of turns in all accounts together.
abbrev pub count_of : List Account → ℕ
count_of [] = 0
count_of (a ∷ rest) = length a.turns + count_of rest

-- The turns of `h` by the accounts' passes, each counted once for each account of its pass.
abbrev pub count_in : List Turn → List Account → ℕ
count_in h [] = 0
count_in h (a ∷ rest) = length (turns_by a.by h) + count_in h rest

one_more : (t : Turn) (h : List Turn) (accounts : List Account)
    → count_in (t ∷ h) accounts ≡ times t.by accounts + count_in h accounts
one_more t h [] = omega arith
one_more t h (a ∷ rest) = either (t.by == a.by) refl (one_more t h rest)
  where
    either : (b : Bool) → (t.by == a.by) ≡ b → count_in (t ∷ h) rest ≡ times t.by rest + count_in h rest
        → length (cond b (t ∷ turns_by a.by h) (turns_by a.by h)) + count_in (t ∷ h) rest
        ≡ (has t.by a + times t.by rest) +
        (length (turns_by a.by h) + count_in h rest)
    either true is so = let one : has t.by a ≡ 1 = ap (λ b. cond b 1 0) (swapped a.by t.by ∙ is) in
        omega arith
    either false is so = let none : has t.by a ≡ 0 = ap (λ b. cond b 1 0) (swapped a.by t.by ∙ is) in
        omega arith

few_in : (accounts : List Account) (h : List Turn) → AreAllBy accounts h → length h ≤ count_in h accounts
few_in accounts [] all = omega arith
few_in accounts (t ∷ h) all = let more = one_more t h accounts in let rest = few_in accounts h all.1 in
    omega (arith, more, rest, all.0)

count_same : (accounts : List Account) (h : List Turn) → IsSplitInto accounts h
    → count_in h accounts ≡ count_of accounts
count_same [] h own = refl
count_same (a ∷ rest) h own = let one = ap length own.0 in let more = count_same rest h own.1 in
    omega arith

-- The history has at most as many turns as its accounts together.
pub few_turns : (accounts : List Account) (h : List Turn) → IsSplitInto accounts h → AreAllBy accounts h
    → length h ≤ count_of accounts
few_turns accounts h own all = let same = count_same accounts h own in let few = few_in accounts h all in
    omega arith

-- ---- The clock

pub clock_by : (most : ℕ) (h : List Turn) → AllByRecursion (λ t. t.at ≤ most) h → clock h ≤ most
clock_by most [] below = omega arith
clock_by most (t ∷ h) below = both (clock h) t.at (clock_by most h below.1) below.0
  where
    both : (n m : ℕ) → n ≤ most → m ≤ most → max n m ≤ most
    both n m a b = omega arith
