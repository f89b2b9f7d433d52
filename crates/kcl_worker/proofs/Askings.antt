-- `AskWithin` holds after each event of the worker's consumers.
use Rattle.std.proofs.Common.{◌≡◌, Bool, true, false, List, [], ◌∷◌, ◌++◌, Some, refl, sym, ap, subst, ◌∙◌}
use Rattle.std.specs.Prelude.{cond, if◌then◌else◌, is_some, not, Result}
use Rattle.std.specs.List.{AllByRecursion, find}
use Rattle.kcl_defs.specs.declared.consumer.Ask.{Ask}
use Rattle.kcl_defs.specs.declared.consumer.Call.{Call}
use Rattle.kcl_defs.specs.declared.plans.TenancyId.{TenancyId}
use Rattle.kds_defs.specs.declared.reply.Refusal.{Refusal}
use Rattle.kds_defs.specs.declared.reply.Reply.{Reply}
use Rattle.kds_defs.specs.declared.reply.Stored.{Stored}
use Rattle.kcl_defs.specs.Consumers.{Stage, Opening, Starting, Filling, Holding, Giving, Marking, Ending, MarkingEnd}
use Rattle.kcl_defs.specs.Consumers.{Leaving, Over, due_call}
use Rattle.kcl_defs.specs.Workers.{Known, is_before_id, is_due_known, same_id}
use Rattle.kcl_consumer.specs.Standing.{HasAsked, ConsumerValue}
use Rattle.kcl_worker.specs.Asks.{AskWithin, IsAsk, IsAskOf, IsWithin, processors}
use Rattle.kcl_worker_lists.specs.Changes.{FirstCalled, FirstUncalled, answered_among, answered_in, is_over_in}
use Rattle.kcl_worker_lists.specs.Changes.{live_among, lost_among, lost_in, with_consumer}
use Rattle.kcl_worker_lists.specs.Lists.{id_in}
use Rattle.kcl_worker_lists.specs.Lists.{is_due}
use Rattle.kcl_worker.specs.Standing.{ConsumersStand}
use Rattle.kcl_worker.proofs.Happenings.{stage_known}

pub within_lost : {P : Type 0} (asks : P → List Stored → Ask → Type 0) (may : List Stored → Ask → Type 0)
    (t : TenancyId → Bool) (cs : List (ConsumerValue P)) → AskWithin asks may cs → AskWithin asks may (lost_among t cs)
within_lost asks may t [] w = tt
within_lost asks may t (c ∷ cs) w = (head (t (id_in c)), within_lost asks may t cs w.1)
  where
    head : (b : Bool) → IsWithin asks may (if b then lost_in c else c).processor
    head true = w.0
    head false = w.0

pub within_answered : {P : Type 0} (asks : P → List Stored → Ask → Type 0) (may : List Stored → Ask → Type 0)
    (id : TenancyId) (answer : Result Reply Refusal) (cs : List (ConsumerValue P)) → AskWithin asks may cs
    → AskWithin asks may (answered_among id answer cs)
within_answered asks may id answer [] w = tt
within_answered asks may id answer (c ∷ cs) w = head (same_id (id_in c) id) (within_answered asks may id answer cs w.1)
  where
    head : (b : Bool) → AskWithin asks may (answered_among id answer cs)
        → AskWithin asks may (if b then answered_in answer c ∷ cs else c ∷ answered_among id answer cs)
    head true rest = (w.0, w.1)
    head false rest = (w.0, rest)

pub within_with : {P : Type 0} (asks : P → List Stored → Ask → Type 0) (may : List Stored → Ask → Type 0)
    (c : ConsumerValue P) (ds : List (ConsumerValue P)) → IsWithin asks may c.processor
    → AskWithin asks may ds
    → AskWithin asks may (with_consumer c ds)
within_with asks may c [] one w = (one, tt)
within_with asks may c (d ∷ ds) one w = head (is_before_id (id_in c) (id_in d)) (within_with asks may c ds one w.1)
  where
    head : (b : Bool) → AskWithin asks may (with_consumer c ds)
        → AskWithin asks may (if b then c ∷ d ∷ ds else d ∷ with_consumer c ds)
    head true rest = (one, w)
    head false rest = (w.0, rest)

pub within_live : {P : Type 0} (asks : P → List Stored → Ask → Type 0) (may : List Stored → Ask → Type 0)
    (cs : List (ConsumerValue P)) → AskWithin asks may cs → AskWithin asks may (live_among cs)
within_live asks may [] w = tt
within_live asks may (c ∷ cs) w = head (is_over_in c) (within_live asks may cs w.1)
  where
    head : (b : Bool) → AskWithin asks may (live_among cs)
        → AskWithin asks may (cond (not b) (c ∷ live_among cs) (live_among cs))
    head true rest = rest
    head false rest = (w.0, rest)

pub within_settled : {P : Type 0} (asks : P → List Stored → Ask → Type 0) (may : List Stored → Ask → Type 0)
    (cs live : List (ConsumerValue P)) → live ≡ live_among cs → AskWithin asks may cs
    → AskWithin asks may live
within_settled asks may cs live is w = subst (AskWithin asks may) (sym is) (within_live asks may cs w)

pub lost_processors : {P : Type 0} (t : TenancyId → Bool) (cs : List (ConsumerValue P))
    → processors (lost_among t cs) ≡ processors cs
lost_processors t [] = refl
lost_processors t (c ∷ cs) = head (t (id_in c)) (lost_processors t cs)
  where
    head : (b : Bool) → processors (lost_among t cs) ≡ processors cs
        → ((if b then lost_in c else c).processor ∷ processors (lost_among t cs)) ≡ (c.processor ∷ processors cs)
    head true e = ap (λ ps. c.processor ∷ ps) e
    head false e = ap (λ ps. c.processor ∷ ps) e

pub within_more : {P : Type 0} (asks : P → List Stored → Ask → Type 0) (may more : List Stored → Ask → Type 0)
    (cs : List (ConsumerValue P)) → ((batch : List Stored) (a : Ask) → may batch a → more batch a)
    → AskWithin asks may cs → AskWithin asks more cs
within_more asks may more [] f w = tt
within_more asks may more (c ∷ cs) f w = (λ batch a h. f batch a (w.0 batch a h), within_more asks may more cs f w.1)

-- ---- The processor that is called

steady_among : {P : Type 0} (asks : P → List Stored → Ask → Type 0) (may : List Stored → Ask → Type 0)
    (old behind : List (ConsumerValue P)) (one same : ConsumerValue P)
    → ((batch : List Stored) (a : Ask) → asks same.processor batch a → asks one.processor batch a)
    → AskWithin asks may (old ++ (one ∷ behind)) → AskWithin asks may (old ++ (same ∷ behind))
steady_among asks may [] behind one same f w = (λ batch a h. w.0 batch a (f batch a h), w.1)
steady_among asks may (c ∷ old) behind one same f w = (w.0, steady_among asks may old behind one same f w.1)

pub within_called : {P : Type 0} (stands : P → List Call → Type 0) (asks : P → List Stored → Ask → Type 0)
    (may : List Stored → Ask → Type 0) (asked : Ask) (old new : List (ConsumerValue P))
    → FirstCalled stands asks asked old new → AskWithin asks may old → AskWithin asks may new
within_called stands asks may asked old new f w =
    subst (AskWithin asks may) (sym f.is)
    (steady_among asks may f.before f.behind f.one f.called f.has.steady (subst (AskWithin asks may) f.was w))

pub within_uncalled : {P : Type 0} (stands : P → List Call → Type 0) (asks : P → List Stored → Ask → Type 0)
    (may : List Stored → Ask → Type 0) (old new : List (ConsumerValue P)) → FirstUncalled stands asks old new
    → AskWithin asks may old → AskWithin asks may new
within_uncalled stands asks may old new f w =
    subst (AskWithin asks may) (sym f.is)
    (steady_among asks may f.before f.behind f.one f.same f.has.steady (subst (AskWithin asks may) f.was w))

is_ask : {P : Type 0} (asks : P → List Stored → Ask → Type 0) (may : List Stored → Ask → Type 0) (p : P) (stage : Stage)
    (asked : Ask) → HasAsked asks p stage asked → ((batch : List Stored) (a : Ask) → asks p batch a → may batch a)
    → IsAsk may stage asked
is_ask asks may p Opening asked h f = h
is_ask asks may p Starting asked h f = h
is_ask asks may p (Filling reach waiting) asked h f = h
is_ask asks may p (Holding reach waiting) asked h f = f _ asked h
is_ask asks may p (Giving reach waiting target lost) asked h f = h
is_ask asks may p (Marking reach waiting target) asked h f = h
is_ask asks may p Ending asked h f = h
is_ask asks may p MarkingEnd asked h f = h
is_ask asks may p (Leaving why) asked h f = h
is_ask asks may p (Over why) asked h f = h

ask_among : {P : Type 0} (stands : P → List Call → Type 0) (asks : P → List Stored → Ask → Type 0)
    (may : List Stored → Ask → Type 0) (asked : Ask) (old behind : List (ConsumerValue P)) (one : ConsumerValue P)
    (ks : List Known)
    → AllByRecursion (λ c. is_due c ≡ false) old → is_due one ≡ true → HasAsked asks one.processor one.stage asked
    → AskWithin asks may (old ++ (one ∷ behind)) → ConsumersStand stands (old ++ (one ∷ behind)) ks
    → IsAskOf may (find is_due_known ks) asked
ask_among stands asks may asked [] behind one [] none due has w s = absurd s
ask_among stands asks may asked [] behind one (k ∷ ks) none due has w s =
    head (is_due_known k) (sym due ∙ ap (λ p. is_some (due_call p)) (stage_known stands one k (s.0, s.1)))
  where
    head : (b : Bool) → true ≡ b → IsAskOf may (cond b (Some k) (find is_due_known ks)) asked
    head true e = subst (λ p. IsAsk may p asked) (stage_known stands one k (s.0, s.1))
        (is_ask asks may one.processor one.stage asked has w.0)
    head false e = absurd cc
ask_among stands asks may asked (c ∷ old) behind one [] none due has w s = absurd s
ask_among stands asks may asked (c ∷ old) behind one (k ∷ ks) none due has w s =
    head (is_due_known k) (sym none.0 ∙ ap (λ p. is_some (due_call p)) (stage_known stands c k (s.0, s.1)))
    (ask_among stands asks may asked old behind one ks none.1 due has w.1 s.2)
  where
    head : (b : Bool) → false ≡ b → IsAskOf may (find is_due_known ks) asked
        → IsAskOf may (cond b (Some k) (find is_due_known ks)) asked
    head false e rest = rest
    head true e rest = absurd cc

pub asked_so : {P : Type 0} (stands : P → List Call → Type 0) (asks : P → List Stored → Ask → Type 0)
    (may : List Stored → Ask → Type 0) (asked : Ask) (old new : List (ConsumerValue P)) (ks : List Known)
    → FirstCalled stands asks asked old new → AskWithin asks may old → ConsumersStand stands old ks
    → IsAskOf may (find is_due_known ks) asked
asked_so stands asks may asked old new ks f w s =
    ask_among stands asks may asked f.before f.behind f.one ks f.none_due f.due f.has.asked_so
    (subst (AskWithin asks may) f.was w) (subst (λ cs. ConsumersStand stands cs ks) f.was s)
