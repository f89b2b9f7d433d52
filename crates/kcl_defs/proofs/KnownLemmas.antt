-- Lists of a worker's consumers: their number per tenure, what stays true of all, and that traces agree.
use Rattle.std.proofs.Common.{◌≡◌, ℕ, ◌+◌, ◌≤◌, Bool, true, false, List, [], ◌∷◌, ◌++◌, Some}
use Rattle.std.proofs.Common.{refl, ap, subst, arith}
use Rattle.std.specs.Prelude.{◌==◌, not, cond, if◌then◌else◌, Result}
use Rattle.std.specs.List.{AllByRecursion, filter}
use Rattle.std.proofs.lemmas.Bool.Decides.{nat_tests}
use Rattle.std.proofs.lemmas.Option.{same_Some}
use Rattle.kds_base.proofs.Facts.{both_right, all_weaker}
use Rattle.kds_defs.specs.declared.command.Command.{Command}
use Rattle.kds_defs.specs.declared.command.Command.TheVariants as command
use Rattle.kcl_defs.specs.declared.consumer.Tenancy.{Tenancy}
use Rattle.kcl_defs.specs.declared.plans.TenancyId.{TenancyId}
use Rattle.kds_defs.specs.declared.reply.Refusal.{Refusal}
use Rattle.kds_defs.specs.declared.reply.Reply.{Reply}
use Rattle.kds_defs.specs.declared.reply.Reply.TheVariants as reply
use Rattle.kcl_defs.specs.Consumers.{Event, Answered, Stage, Opening, Filling, Giving, Marking}
use Rattle.kcl_defs.specs.Consumers.{MarkingEnd, next_command}
use Rattle.kcl_defs.specs.Lives.{Deal, reads_of, gives_of, read_in, give_in, IsInStep}
use Rattle.kcl_defs.specs.Workers.{Known}
use Rattle.kcl_defs.specs.Workers.{id_of, same_id, with_event, happens_to, happens_to_first}
use Rattle.kcl_defs.specs.Workers.{with_known, is_before_id, known_of}
use Rattle.kcl_defs.specs.Workers.{stage_of_known}
use Rattle.kcl_defs.specs.Workers.{consumed}
use Rattle.kcl_defs.proofs.StepLemmas.{others_keep, own_keeps}

-- ---- How often a tenure is among consumers

-- How many of the consumers have tenure `t`.
abbrev pub times : ℕ → List Known → ℕ
times t [] = 0
times t (k ∷ known) = (if k.made.tenure == t then 1 else 0) + times t known

-- The consumer's trace has the accepted reads and Gives of its tenure among `deals`.
abbrev pub InStep : List Deal → Known → Type 0
InStep deals k = IsInStep deals k.made k.past

pub times-append : (t : ℕ) (xs ys : List Known) → times t (xs ++ ys) ≡ times t xs + times t ys
times-append t [] ys = zero_plus (times t ys)
  where
    zero_plus : (n : ℕ) → n ≡ 0 + n
    zero_plus n = omega arith
times-append t (k ∷ xs) ys =
    plus (if k.made.tenure == t then 1 else 0) (times t xs) (times t ys) (times t (xs ++ ys)) (times-append t xs ys)
  where
    plus : (a b c d : ℕ) → d ≡ b + c → a + d ≡ (a + b) + c
    plus a b c d h = omega arith

pub times-parted : (t : ℕ) (p : Known → Bool) (xs : List Known)
    → times t (filter (λ k. not (p k)) xs) + times t (filter p xs) ≡ times t xs
times-parted t p [] = refl
times-parted t p (k ∷ xs) = parted (p k) (times-parted t p xs)
  where
    parted : (b : Bool) → times t (filter (λ k. not (p k)) xs) + times t (filter p xs) ≡ times t xs
        → times t (cond (not b) (k ∷ filter (λ k. not (p k)) xs) (filter (λ k. not (p k)) xs))
        + times t (cond b (k ∷ filter p xs) (filter p xs)) ≡ times t (k ∷ xs)
    parted true h = right (if k.made.tenure == t then 1 else 0) (times t (filter (λ k. not (p k)) xs))
        (times t (filter p xs)) (times t xs) h
      where
        right : (a b c d : ℕ) → b + c ≡ d → b + (a + c) ≡ a + d
        right a b c d h = omega arith
    parted false h = left (if k.made.tenure == t then 1 else 0) (times t (filter (λ k. not (p k)) xs))
        (times t (filter p xs)) (times t xs) h
      where
        left : (a b c d : ℕ) → b + c ≡ d → (a + b) + c ≡ a + d
        left a b c d h = omega arith

pub times-event : (t : ℕ) (test : Known → Bool) (e : Event) (xs : List Known)
    → times t (happens_to test e xs) ≡ times t xs
times-event t test e [] = refl
times-event t test e (k ∷ xs) = head (test k) (times-event t test e xs)
  where
    head : (b : Bool) → times t (happens_to test e xs) ≡ times t xs
        → times t ((if b then with_event e k else k) ∷ happens_to test e xs) ≡ times t (k ∷ xs)
    head true h = ap (λ n. (if k.made.tenure == t then 1 else 0) + n) h
    head false h = ap (λ n. (if k.made.tenure == t then 1 else 0) + n) h

pub times-first : (t : ℕ) (test : Known → Bool) (e : Event) (xs : List Known)
    → times t (happens_to_first test e xs) ≡ times t xs
times-first t test e [] = refl
times-first t test e (k ∷ xs) = head (test k) (times-first t test e xs)
  where
    head : (b : Bool) → times t (happens_to_first test e xs) ≡ times t xs
        → times t (if b then with_event e k ∷ xs else k ∷ happens_to_first test e xs) ≡ times t (k ∷ xs)
    head true h = refl
    head false h = ap (λ n. (if k.made.tenure == t then 1 else 0) + n) h

pub times-with_known : (t : ℕ) (k : Known) (xs : List Known) → times t (with_known k xs) ≡ times t (k ∷ xs)
times-with_known t k [] = refl
times-with_known t k (x ∷ xs) = head (is_before_id (id_of k) (id_of x)) (times-with_known t k xs)
  where
    head : (b : Bool) → times t (with_known k xs) ≡ times t (k ∷ xs)
        → times t (if b then k ∷ x ∷ xs else x ∷ with_known k xs) ≡ times t (k ∷ x ∷ xs)
    head true h = refl
    head false h = swap (if x.made.tenure == t then 1 else 0) (if k.made.tenure == t then 1 else 0) (times t xs)
        (times t (with_known k xs)) h
      where
        swap : (a b c d : ℕ) → d ≡ b + c → a + d ≡ b + (a + c)
        swap a b c d h = omega arith

-- ---- Facts about all consumers of a list

pub all_with_known : (P : Known → Type 0) (k : Known) (xs : List Known) → P k → AllByRecursion P xs
    → AllByRecursion P (with_known k xs)
all_with_known P k [] p h = (p, tt)
all_with_known P k (x ∷ xs) p h = head (is_before_id (id_of k) (id_of x)) (all_with_known P k xs p h.1)
  where
    head : (b : Bool) → AllByRecursion P (with_known k xs)
        → AllByRecursion P (if b then k ∷ x ∷ xs else x ∷ with_known k xs)
    head true g = (p, (h.0, h.1))
    head false g = (h.0, g)

pub all_event : (P : Known → Type 0) (test : Known → Bool) (e : Event) (xs : List Known)
    → ((k : Known) → P k → P (with_event e k)) → AllByRecursion P xs → AllByRecursion P (happens_to test e xs)
all_event P test e [] f h = tt
all_event P test e (k ∷ xs) f h = (head (test k), all_event P test e xs f h.1)
  where
    head : (b : Bool) → P (if b then with_event e k else k)
    head true = f k h.0
    head false = h.0

pub all_first : (P : Known → Type 0) (test : Known → Bool) (e : Event) (xs : List Known)
    → ((k : Known) → P k → P (with_event e k)) → AllByRecursion P xs → AllByRecursion P (happens_to_first test e xs)
all_first P test e [] f h = tt
all_first P test e (k ∷ xs) f h = head (test k) (all_first P test e xs f h.1)
  where
    head : (b : Bool) → AllByRecursion P (happens_to_first test e xs)
        → AllByRecursion P (if b then with_event e k ∷ xs else k ∷ happens_to_first test e xs)
    head true rest = (f k h.0, h.1)
    head false rest = (h.0, rest)

-- ---- What a command is about

-- The command has no read and no give of any tenure, whatever its answer is.
abbrev pub IsQuiet : Command → Type 0
IsQuiet asked = (u : ℕ) (a : Result Reply Refusal) → (reads_of u asked a ≡ []) × (gives_of u asked a ≡ 0)

-- The command has no read and no give of a tenure other than `t`, whatever its answer is.
abbrev pub IsAbout : ℕ → Command → Type 0
IsAbout t asked = (u : ℕ) → (u == t) ≡ false → (a : Result Reply Refusal) → (reads_of u asked a ≡ [])
    × (gives_of u asked a ≡ 0)

pub flip : (t u : ℕ) → (u == t) ≡ false → (t == u) ≡ false
flip t u h = grind (arith, nat_tests)

about_as : (t : ℕ) (request asked : Command) → Some request ≡ Some asked → IsAbout t request → IsAbout t asked
about_as t request asked e h = subst (λ w. IsAbout t w) (same_Some request asked e) h

pub about : (made : Tenancy) (stage : Stage) (counter : ℕ) (request : Command)
    → next_command made stage counter ≡ Some request → IsAbout made.tenure request
about made Opening counter request e = about_as made.tenure _ request e (λ u n a. (refl, refl))
about made (Filling reach waiting) counter request e =
    about_as made.tenure _ request e (λ u n a. (ap (λ b. cond b (read_in a) []) (flip made.tenure u n), refl))
about made (Giving reach waiting asked lost) counter request e =
    about_as made.tenure _ request e (λ u n a. (refl, ap (λ b. cond b (give_in a) 0) (flip made.tenure u n)))
about made (Marking reach waiting target) counter request e = about_as made.tenure _ request e (λ u n a. (refl, refl))
about made MarkingEnd counter request e = about_as made.tenure _ request e (λ u n a. (refl, refl))
about made _ counter request e = absurd cc

-- ---- Commands of one consumer

no_more : (m : ℕ) → 1 + m ≡ 0 → ⊥
no_more m n = omega arith

rest_none : (m : ℕ) → 0 + m ≡ 0 → m ≡ 0
rest_none m n = omega arith

pub others : (t : ℕ) (deal : Deal) (deals : List Deal) (xs : List Known) → IsAbout t deal.what → times t xs ≡ 0
    → AllByRecursion (InStep deals) xs → AllByRecursion (InStep (deal ∷ deals)) xs
others t deal deals [] is none h = tt
others t deal deals (k ∷ xs) is none h = head (k.made.tenure == t) refl none (λ n. others t deal deals xs is n h.1)
  where
    head : (b : Bool) → (k.made.tenure == t) ≡ b → (if b then 1 else 0) + times t xs ≡ 0
        → (times t xs ≡ 0 → AllByRecursion (InStep (deal ∷ deals)) xs) → AllByRecursion (InStep (deal ∷ deals)) (k ∷ xs)
    head true e n rest = absurd (no_more (times t xs) n)
    head false e n rest =
        let q = is k.made.tenure e deal.answer in
        (others_keep deal deals k.made k.past q.0 q.1 h.0, rest (rest_none (times t xs) n))

pub quiet : (deal : Deal) (deals : List Deal) (xs : List Known) → IsQuiet deal.what → AllByRecursion (InStep deals) xs
    → AllByRecursion (InStep (deal ∷ deals)) xs
quiet deal deals xs is h =
    all_weaker (InStep deals) (InStep (deal ∷ deals)) (λ k s. let q = is k.made.tenure deal.answer in
    others_keep deal deals k.made k.past q.0 q.1 s) xs h

pub found_times : (id : TenancyId) (k : Known) (xs : List Known) → known_of id xs ≡ Some k → 1 ≤ times id.tenure xs
found_times id k [] h = absurd cc
found_times id k (x ∷ xs) h = head (same_id (id_of x) id) refl h (λ g. found_times id k xs g)
  where
    at_least : (a b c : ℕ) → 1 ≤ b → 1 ≤ a + b
    at_least a b c h = omega arith

    counted : (b : Bool) (m : ℕ) → b ≡ true → 1 ≤ (if b then 1 else 0) + m
    counted true m h = omega arith
    counted false m h = absurd cc

    head : (b : Bool) → same_id (id_of x) id ≡ b → cond b (Some x) (known_of id xs) ≡ Some k
        → (known_of id xs ≡ Some k → 1 ≤ times id.tenure xs) → 1 ≤ times id.tenure (x ∷ xs)
    head true e g rest = counted (x.made.tenure == id.tenure) (times id.tenure xs)
        (both_right _ (x.made.tenure == id.tenure) e)
    head false e g rest = at_least (if x.made.tenure == id.tenure then 1 else 0) (times id.tenure xs) 0 (rest g)

pub own : (id : TenancyId) (deal : Deal) (deals : List Deal) (k : Known) (counter : ℕ) (xs : List Known)
    → next_command k.made (stage_of_known k) counter ≡ Some deal.what → IsAbout id.tenure deal.what
    → times id.tenure xs ≤ 1 → known_of id xs ≡ Some k → AllByRecursion (InStep deals) xs
    → AllByRecursion (InStep (deal ∷ deals)) (consumed id deal.answer xs)
own id deal deals k counter [] next is once found h = tt
own id deal deals k counter (x ∷ xs) next is once found h =
    head (same_id (id_of x) id) refl found (λ o g. own id deal deals k counter xs next is o g h.1)
  where
    same_known : (x k : Known) → Some x ≡ Some k → k ≡ x
    same_known x k e = cc

    none_left : (b : Bool) (m : ℕ) → b ≡ true → (if b then 1 else 0) + m ≤ 1 → m ≡ 0
    none_left true m e o = omega arith
    none_left false m e o = absurd cc

    other_tenure : (b : Bool) (m : ℕ) → (if b then 1 else 0) + m ≤ 1 → 1 ≤ m → (b ≡ false) × (m ≤ 1)
    other_tenure true m o g = absurd (omega arith)
    other_tenure false m o g = (refl, omega arith)

    head : (b : Bool) → same_id (id_of x) id ≡ b → cond b (Some x) (known_of id xs) ≡ Some k
        → (times id.tenure xs ≤ 1 → known_of id xs ≡ Some k
        → AllByRecursion (InStep (deal ∷ deals)) (consumed id deal.answer xs))
        → AllByRecursion (InStep (deal ∷ deals)) (if b then with_event (Answered deal.answer) x ∷ xs else x
        ∷ consumed id deal.answer xs)
    head true e g rest =
        let none = none_left (x.made.tenure == id.tenure) (times id.tenure xs)
        (both_right _ (x.made.tenure == id.tenure) e) once in
        let P : Known → Type 0 = λ j. next_command j.made (stage_of_known j) counter ≡ Some deal.what in (
          own_keeps deal deals counter x.made x.past (subst P (same_known x k g) next) h.0,
          others id.tenure deal deals xs is none h.1,
        )
    head false e g rest =
        let n = other_tenure (x.made.tenure == id.tenure) (times id.tenure xs) once (found_times id k xs g) in
        let q = is x.made.tenure n.0 deal.answer in
        (others_keep deal deals x.made x.past q.0 q.1 h.0, rest n.1 g)
