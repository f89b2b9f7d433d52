-- A worker's consumers after the first due processor call or one answer.
use Rattle.std.proofs.Common.{◌≡◌, ℕ, ◌+◌, ◌<◌, ◌++◌, get_or, map, set, take, drop, length, suc, List, ◌∷◌}
use Rattle.std.proofs.Common.{sym, ap, ◌∙◌}
use Rattle.std.specs.Prelude.{Result, if◌then◌else◌}
use Rattle.std.proofs.lemmas.List.{set_split, take-append-drop}
use Rattle.std.proofs.lemmas.List.Edits.{map_over_more}
use Rattle.std.proofs.Math.Seq.{drop-cons}
use Rattle.kcl_defs.specs.declared.consumer.Ask.{Ask}
use Rattle.kcl_defs.specs.declared.consumer.Call.{Call}
use Rattle.kds_defs.specs.declared.reply.Stored.{Stored}
use Rattle.kcl_defs.specs.declared.plans.TenancyId.{TenancyId}
use Rattle.kds_defs.specs.declared.reply.Refusal.{Refusal}
use Rattle.kds_defs.specs.declared.reply.Reply.{Reply}
use Rattle.kcl_defs.specs.Consumers.{after_answer, given_after}
use Rattle.kcl_consumer.specs.Standing.{HasCalled, IsAsBefore, ConsumerValue}
use Rattle.kcl_worker_lists.specs.Changes.{FirstCalled, FirstUncalled, IsFirstDue, IsFirstOf, answered_among}
use Rattle.kcl_worker_lists.specs.Changes.{answered_in}

split_at : {X : Type 0} (xs : List X) (i : ℕ) (x : X) → i < length xs → x ≡ get_or xs i x
    → xs ≡ take i xs ++ (x ∷ drop (suc i) xs)
split_at xs i x lt is_at =
    sym (take-append-drop i xs)
    ∙ ap (λ l. take i xs ++ l) (drop-cons xs i x lt)
    ∙ ap (λ y. take i xs ++ (y ∷ drop (suc i) xs)) (sym is_at)

pub first_called : {P : Type 0} (stands : P → List Call → Type 0) (asks : P → List Stored → Ask → Type 0) (asked : Ask)
    (i : ℕ) (cs new : List (ConsumerValue P)) (c d : ConsumerValue P) → IsFirstDue i cs
    → c ≡ get_or cs i c → new ≡ set cs i d → HasCalled stands asks asked c d → FirstCalled stands asks asked cs new
first_called stands asks asked i cs new c d f is_at is has = record {
  before = take i cs;
  one = c;
  called = d;
  behind = drop (suc i) cs;
  was = split_at cs i c f.within is_at;
  is = is ∙ set_split cs i d f.within;
  none_due = f.none_due;
  due = f.due c is_at;
  has = has;
}

pub first_uncalled : {P : Type 0} (stands : P → List Call → Type 0) (asks : P → List Stored → Ask → Type 0) (i : ℕ)
    (cs new : List (ConsumerValue P)) (c d : ConsumerValue P) → IsFirstDue i cs → c ≡ get_or cs i c
    → new ≡ set cs i d → IsAsBefore stands asks c d → FirstUncalled stands asks cs new
first_uncalled stands asks i cs new c d f is_at is has = record {
  before = take i cs;
  one = c;
  same = d;
  behind = drop (suc i) cs;
  was = split_at cs i c f.within is_at;
  is = is ∙ set_split cs i d f.within;
  has = has;
}

-- ---- A loop that writes over each element

pub map_over : {X : Type 0} (f : X → X) (xs ys : List X) (i : ℕ) (x y : X) → i < length xs
    → ys ≡ map f (take i xs) ++ drop i xs → x ≡ get_or ys i x → y ≡ f x
    → set ys i y ≡ map f (take (i + 1) xs) ++ drop (i + 1) xs
map_over f xs ys i x y lt so_far is_at is = ap (λ z. set ys i z) is ∙ map_over_more f xs ys i x lt so_far is_at

-- ---- The consumer that takes an answer

pub answered_same : {P : Type 0} (answer : Result Reply Refusal) (c d : ConsumerValue P) → d.made ≡ c.made
    → d.stage ≡ after_answer c.made answer c.stage → d.given ≡ given_after answer c.stage c.given
    → d.processor ≡ c.processor → d ≡ answered_in answer c
answered_same answer c d a b g e = λ i. record { made = a i; stage = b i; given = g i; processor = e i }

pub answered_here : {P : Type 0} (id : TenancyId) (answer : Result Reply Refusal) (i : ℕ) (cs : List (ConsumerValue P))
    (c d : ConsumerValue P) → IsFirstOf id i cs → c ≡ get_or cs i c → d ≡ answered_in answer c
    → set cs i d ≡ answered_among id answer cs
answered_here id answer i cs c d f is_at is =
    set_split cs i d f.within
    ∙ ap (λ x. take i cs ++ (x ∷ drop (suc i) cs)) is
    ∙ ap (λ l. take i cs ++ l) (sym
    (ap (answered_among id answer) (drop-cons cs i c f.within ∙ ap (λ y. y ∷ drop (suc i) cs) (sym is_at))
    ∙ ap (λ b. if b then answered_in answer c ∷ drop (suc i) cs else c ∷ answered_among id answer (drop (suc i) cs))
    (f.same c is_at)))
    ∙ f.before answer
