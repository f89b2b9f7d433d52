-- Each processor call leaves fewer processor calls due.
use Rattle.std.proofs.Common.{◌≡◌, ℕ, ◌+◌, ◌<◌, ◌≤◌, Bool, true, false, List, [], ◌∷◌, ◌++◌, length, refl, ap, ◌∙◌}
use Rattle.std.proofs.Common.{arith}
use Rattle.std.specs.Prelude.{cond, is_some, not}
use Rattle.std.specs.List.{filter}
use Rattle.kds_defs.specs.declared.reply.Stored.{Stored}
use Rattle.kcl_defs.specs.declared.consumer.Ask.{Ask}
use Rattle.kcl_defs.specs.declared.consumer.Call.{Call}
use Rattle.kcl_defs.specs.declared.consumer.Tenancy.{Tenancy}
use Rattle.kcl_defs.specs.Consumers.{Stage, Opening, Starting, Filling, Holding, Giving, Marking, Ending, MarkingEnd}
use Rattle.kcl_defs.specs.Consumers.{Leaving, Over, after_call, due_call}
use Rattle.kcl_consumer.specs.Standing.{ConsumerValue}
use Rattle.kcl_worker_lists.specs.Changes.{FirstCalled, is_over_in, live_among}
use Rattle.kcl_worker_lists.specs.Lists.{due_count, is_due}

pub not_again : (made : Tenancy) (a : Ask) (p : Stage) → is_some (due_call p) ≡ true
    → is_some (due_call (after_call made a p)) ≡ false
not_again made a Opening h = absurd cc
not_again made a Starting h = refl
not_again made a (Filling reach waiting) h = absurd cc
not_again made a (Holding reach waiting) h = refl
not_again made a (Giving reach waiting asked lost) h = absurd cc
not_again made a (Marking reach waiting target) h = absurd cc
not_again made a Ending h = refl
not_again made a MarkingEnd h = absurd cc
not_again made a (Leaving why) h = refl
not_again made a (Over why) h = absurd cc

more_by : {P : Type 0} (b : Bool) (c : ConsumerValue P) (cs : List (ConsumerValue P)) (n m : ℕ) → length cs ≡ n + m
    → length (cond b (c ∷ cs) cs) ≡ length (cond b (c ∷ []) []) + n + m
more_by true c cs n m h = omega arith
more_by false c cs n m h = omega arith

one_by : {P : Type 0} (b : Bool) (c : ConsumerValue P) (cs : List (ConsumerValue P))
    → length (cond b (c ∷ cs) cs) ≡ length (cond b (c ∷ []) []) + length cs
one_by true c cs = omega arith
one_by false c cs = omega arith

count-append : {P : Type 0} (xs ys : List (ConsumerValue P)) → due_count (xs ++ ys) ≡ due_count xs + due_count ys
count-append [] ys = omega arith
count-append (c ∷ xs) ys =
    omega (
      arith,
      more_by (is_due c) c (filter is_due (xs ++ ys)) (due_count xs) (due_count ys) (count-append xs ys),
      one_by (is_due c) c (filter is_due xs),
    )

live_by : {P : Type 0} (over : Bool) (c : ConsumerValue P) (live cs : List (ConsumerValue P))
    → due_count live ≤ due_count cs
    → due_count (cond (not over) (c ∷ live) live) ≤ due_count (c ∷ cs)
live_by true c live cs h = omega (arith, h, one_by (is_due c) c (filter is_due cs))
live_by false c live cs h =
    omega (arith, h, one_by (is_due c) c (filter is_due cs), one_by (is_due c) c (filter is_due live))

count-live : {P : Type 0} (cs : List (ConsumerValue P)) → due_count (live_among cs) ≤ due_count cs
count-live [] = omega arith
count-live (c ∷ cs) = live_by (is_over_in c) c (live_among cs) cs (count-live cs)

count_due : {P : Type 0} (c : ConsumerValue P) (cs : List (ConsumerValue P)) → is_due c ≡ true
    → due_count (c ∷ cs) ≡ 1 + due_count cs
count_due c cs h = ap (λ b. length (cond b (c ∷ filter is_due cs) (filter is_due cs))) h ∙ omega arith

count_quiet : {P : Type 0} (c : ConsumerValue P) (cs : List (ConsumerValue P)) → is_due c ≡ false
    → due_count (c ∷ cs) ≡ due_count cs
count_quiet c cs h = ap (λ b. length (cond b (c ∷ filter is_due cs) (filter is_due cs))) h

pub fewer_due : {P : Type 0} (stands : P → List Call → Type 0) (asks : P → List Stored → Ask → Type 0) (asked : Ask)
    (old new settled : List (ConsumerValue P)) → FirstCalled stands asks asked old new
    → settled ≡ live_among new → due_count settled < due_count old
fewer_due stands asks asked old new settled f is =
    let quiet : is_due f.called ≡ false =
    ap (λ p. is_some (due_call p)) f.has.stage ∙ not_again f.one.made asked f.one.stage f.due in
    omega (
      arith,
      ap due_count is,
      count-live new,
      ap due_count f.is,
      ap due_count f.was,
      count-append f.before (f.called ∷ f.behind),
      count-append f.before (f.one ∷ f.behind),
      count_quiet f.called f.behind quiet,
      count_due f.one f.behind f.due,
    )
