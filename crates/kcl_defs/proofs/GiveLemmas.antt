-- If a Give is refused, each earlier read of its tenure by the same actor is given already.
use Rattle.std.proofs.Common.{◌≡◌, ℕ, suc, ◌-◌, ◌≤◌, Bool, true, false, List, [], ◌∷◌, length, Option, Some, None, Err}
use Rattle.std.proofs.Common.{refl, sym, ap, subst, arith}
use Rattle.std.specs.Prelude.{◌==◌, cond, if◌then◌else◌, not, map, Result}
use Rattle.std.proofs.lemmas.Bool.Decides.{nat_tests}
use Rattle.std.proofs.lemmas.Bool.{not-false}
use Rattle.kds_base.proofs.Facts.{not_true}
use Rattle.kds_defs.specs.declared.command.Command.{Command}
use Rattle.kds_defs.specs.declared.command.Command.TheVariants as command
use Rattle.kds_defs.specs.declared.command.Turn.{Turn}
use Rattle.kcl_defs.specs.declared.consumer.Fetched.{Fetched}
use Rattle.kds_defs.specs.declared.reply.Refusal.{Refusal}
use Rattle.kds_defs.specs.declared.reply.Refusal.TheVariants as refusal
use Rattle.kds_defs.specs.declared.reply.Reply.{Reply}
use Rattle.kds_defs.specs.Decision.{Decision, refuse◌if◌else◌, with◌or◌then◌}
use Rattle.kds_defs.specs.Histories.{decide, answer_of, journal, clock, answer}
use Rattle.kds_defs.specs.Journal.{Journal}
use Rattle.kds_defs.specs.Leases.{tenure, pending}
use Rattle.kds_defs.specs.LeaseCommands.{give}
use Rattle.kcl_defs.specs.Lives.{Deal, deals_of, reads_in, gives_in}
use Rattle.kcl_defs.specs.WorkerLives.{read_done}
use Rattle.kcl_defs.proofs.DealLemmas.{AgreeWith, AllAgree, agree, own_actor}

-- If a Give is refused, each read of its tenure among `deals` is given.
abbrev pub IsGiveTaken : Command → Result Reply Refusal → List Deal → Type 0
IsGiveTaken (command.Give t) (Err r) deals = length (reads_in t deals) ≤ gives_in t deals
IsGiveTaken _ answer deals = Unit {0}

-- Each refused Give came when each earlier read of its tenure was given already.
abbrev pub AreGivesTaken : List Deal → Type 0
AreGivesTaken [] = Unit {0}
AreGivesTaken (deal ∷ deals) = IsGiveTaken deal.what deal.answer deals × AreGivesTaken deals

-- If this answer refuses a Give of tenure `t`, each of the tenure's reads is given.
abbrev GiveAnswers : ℕ → List Deal → Result Reply Refusal → Type 0
GiveAnswers t deals answer = IsGiveTaken (command.Give t) answer deals

if_refused_so : (P : Result Reply Refusal → Type 0) (r : Refusal) (b : Bool) (d : Decision) → (b ≡ true → P (Err r))
    → (b ≡ false → P (answer_of d)) → P (answer_of (refuse r if b else d))
unfolding refuse◌if◌else◌
if_refused_so P r true d h g = h refl
if_refused_so P r false d h g = g refl

if_none_so : {A : Type 0} (P : Result Reply Refusal → Type 0) (r : Refusal) (o : Option A) (d : A → Decision)
    → (o ≡ None → P (Err r)) → ((x : A) → o ≡ Some x → P (answer_of (d x))) → P (answer_of (with o or r then d))
unfolding with◌or◌then◌
if_none_so P r None d h g = h refl
if_none_so P r (Some x) d h g = g x refl

none_le : (rs : List Fetched) (n : ℕ) → rs ≡ [] → length rs ≤ n
none_le rs n e = subst (λ xs. length xs ≤ n) (sym e) (zero_le n)
  where
    zero_le : (n : ℕ) → 0 ≤ n
    zero_le n = omega arith

pub length_map : (xs : List Fetched) → length (map read_done xs) ≡ length xs
length_map [] = refl
length_map (x ∷ xs) = ap suc (length_map xs)

all_given : (a b c n g : ℕ) → a ≡ b → g ≡ n → b ≡ c → ((c - n) == 0) ≡ true → a ≤ g
all_given a b c n g h i j k = small a b c n g h i j (zero_so (c - n) k)
  where
    zero_so : (n : ℕ) → (n == 0) ≡ true → n ≡ 0
    zero_so n h = grind (arith, nat_tests)

    small : (a b c n g : ℕ) → a ≡ b → g ≡ n → b ≡ c → c - n ≡ 0 → a ≤ g
    small a b c n g h i j k = omega arith

not_own_actor : (a b d : ℕ) → (a == b) ≡ false → (b == d) ≡ true → (a == d) ≡ false
not_own_actor a b d h g = grind (arith, nat_tests)

give_taken : (sender actor c t : ℕ) (deals : List Deal) (log : Journal) → (actor == sender) ≡ true
    → AllAgree sender deals log
    → GiveAnswers t deals (answer_of (give log c actor t))
give_taken sender actor c t deals log own h =
    if_none_so (GiveAnswers t deals) refusal.NoTenure (tenure log t) _
    (λ e. none_le (reads_in t deals) (gives_in t deals) (subst (λ o. AgreeWith sender t deals o) e (h t)).1)
    (λ T e. let a : AgreeWith sender t deals (Some T) = subst (λ o. AgreeWith sender t deals o) e (h t) in
    if_refused_so (GiveAnswers t deals) refusal.NotYours (not (T.by == actor)) _
    (λ n. none_le (reads_in t deals) (gives_in t deals)
    (a.1 (not_own_actor T.by actor sender (not_true (T.by == actor) n) own)).0)
    (λ n. let m = a.0 (own_actor T.by actor sender (not-false (T.by == actor) n) own) in
    if_refused_so (GiveAnswers t deals) refusal.NothingPending (pending T == 0) _
    (λ z. all_given (length (reads_in t deals)) (length (map read_done (reads_in t deals))) (length T.reads) T.given
    (gives_in t deals)
    (sym (length_map (reads_in t deals))) m.1 (ap length m.0) z)
    (λ z. tt)))

turn_taken : (sender actor c : ℕ) (asked : Command) (deals : List Deal) (log : Journal) → (actor == sender) ≡ true
    → AllAgree sender deals log → IsGiveTaken asked (answer_of (decide log c actor asked)) deals
turn_taken sender actor c (command.Give t) deals log own h = give_taken sender actor c t deals log own h
turn_taken sender actor c _ deals log own h = tt

turns_taken : (actor : ℕ) (turn : Turn) (h : List Turn) (b : Bool) → (turn.by == actor) ≡ b
    → AreGivesTaken (deals_of actor h)
    → AreGivesTaken (cond b (record { what = turn.what; answer = answer h turn } ∷ deals_of actor h) (deals_of actor h))
turns_taken actor turn h true e taken =
    (turn_taken actor turn.by (clock (turn ∷ h)) turn.what (deals_of actor h) (journal h) e (agree actor h), taken)
turns_taken actor turn h false e taken = taken

pub gives_taken : (actor : ℕ) (h : List Turn) → AreGivesTaken (deals_of actor h)
gives_taken actor [] = tt
gives_taken actor (turn ∷ h) = turns_taken actor turn h (turn.by == actor) refl (gives_taken actor h)
