-- The command that the code chooses is the next one after the worker's trace.
use Rattle.std.proofs.Common.{◌≡◌, ℕ, ◌<◌, ◌≤◌, suc, get_or, drop, length, Bool, true, false, List, [], ◌∷◌, Option}
use Rattle.std.proofs.Common.{Some, None, refl, sym, ap, subst, ◌∙◌, arith}
use Rattle.std.specs.Prelude.{◌==◌, ◌&&◌, ◌||◌, cond, is_some, not}
use Rattle.std.specs.List.{AllByRecursion, find, list_any}
use Rattle.std.specs.Option.{option_map}
use Rattle.std.proofs.lemmas.Bool.Decides.{nat_tests}
use Rattle.kds_base.proofs.Facts.{apart}
use Rattle.kds_defs.specs.declared.command.Command.{Command}
use Rattle.kds_defs.specs.declared.command.Command.TheVariants as command
use Rattle.kcl_defs.specs.Workers.{is_due_known, is_idle}
use Rattle.kcl_defs.specs.declared.consumer.Call.{Call}
use Rattle.kcl_defs.specs.declared.consumer.Due.{Due}
use Rattle.kcl_defs.specs.declared.consumer.WorkerMade.{WorkerMade}
use Rattle.kcl_defs.specs.declared.plans.Held.{Held}
use Rattle.kcl_defs.specs.declared.plans.TenancyId.{TenancyId}
use Rattle.kcl_defs.specs.declared.plans.SyncStep.{SyncStep}
use Rattle.kcl_defs.specs.declared.plans.TakeStep.{TakeStep}
use Rattle.kcl_defs.specs.Consumers.{Stage, due_call, next_command, over_at, stage_after}
use Rattle.kcl_defs.specs.Workers.{Known, WorkerState, WorkerPast, Gave_command, Pending, Round, AtStopping, Surveying}
use Rattle.kcl_defs.specs.Workers.{Consuming, Finishing, Freeing, chore_from, consumer_chore, consumer_command}
use Rattle.kcl_defs.specs.Workers.{counter_of, freeing_chore, from_consumers, id_of, is_giving, is_giving_stage}
use Rattle.kcl_defs.specs.Workers.{is_nothing_held, is_past, is_stopping, known_of, next_pending, pending_chore}
use Rattle.kcl_defs.specs.Workers.{pending_of, stage_of_known, same_id, stopping_chore, worker_after}
use Rattle.kcl_defs.proofs.FineLemmas.{own_id}
use Rattle.kcl_consumer.specs.Standing.{ConsumerValue}
use Rattle.kcl_worker.specs.declared.round.Awaited.{Awaited}
use Rattle.kcl_worker.specs.declared.round.Awaited.TheVariants as awaited
use Rattle.kcl_worker_lists.specs.Lists.{giving_in, id_in, past_in}
use Rattle.kcl_worker.specs.Outlook.{IsGiven, IsReady}
use Rattle.kcl_worker.specs.Parts.{chore_of}
use Rattle.kcl_worker_lists.specs.Lists.{due_in, due_or, is_due}
use Rattle.kcl_worker.specs.Standing.{ConsumersStand, ShowsState, StandsFor, WorkerStanding, is_due_in, is_giving_in}
use Rattle.kcl_worker.specs.Standing.{is_idle_in}
use Rattle.kcl_worker.proofs.Happenings.{stage_known}

-- ---- The same consumer is found in the code and in the record

-- Both searches found nothing, or consumers with the same values and stage.
abbrev pub IsFoundSo : {P : Type 0} → Option (ConsumerValue P) → Option Known → Type 0
IsFoundSo None None = Unit {0}
IsFoundSo (Some c) (Some k) = (c.made ≡ k.made) × (c.stage ≡ stage_of_known k)
IsFoundSo None (Some k) = ⊥
IsFoundSo (Some c) None = ⊥

-- The same search in code and trace finds matching consumers.
pub found_so : {P : Type 0} (stands : P → List Call → Type 0) (t : TenancyId → Stage → Bool)
    (cs : List (ConsumerValue P))
    (ks : List Known) → ConsumersStand stands cs ks
    → IsFoundSo (find (λ c. t (id_in c) c.stage) cs) (find (λ k. t (id_of k) (stage_of_known k)) ks)
found_so stands t [] [] s = tt
found_so stands t (c ∷ cs) (k ∷ ks) s =
    let same : c.stage ≡ stage_of_known k = s.1.stage ∙ ap (λ m. stage_after m k.past) s.0 in
    let e : t (id_in c) c.stage ≡ t (id_of k) (stage_of_known k) =
    ap (λ m. t (record { key = m.key; tenure = m.tenure }) c.stage) s.0 ∙ ap (λ p. t (id_of k) p) same in
    head (t (id_in c) c.stage) (t (id_of k) (stage_of_known k)) e (s.0, same) (found_so stands t cs ks s.2)
  where
    head : (a b : Bool) → a ≡ b → (c.made ≡ k.made) × (c.stage ≡ stage_of_known k)
        → IsFoundSo (find (λ c. t (id_in c) c.stage) cs) (find (λ k. t (id_of k) (stage_of_known k)) ks)
        → IsFoundSo (cond a (Some c) (find (λ c. t (id_in c) c.stage) cs))
        (cond b (Some k) (find (λ k. t (id_of k) (stage_of_known k)) ks))
    head true true e same rest = same
    head false false e same rest = rest
    head true false e same rest = absurd cc
    head false true e same rest = absurd cc
found_so stands t [] (k ∷ ks) s = absurd s
found_so stands t (c ∷ cs) [] s = absurd s

-- ---- A consumer that is found by its lease is the first of that lease

same_numbers : (a b c d e f : ℕ) → ((a == d) && (b == e) && (c == f)) ≡ true → (a ≡ d) × (b ≡ e) × (c ≡ f)
same_numbers a b c d e f h =
    (one a d (b == e) (c == f) h, two b e (a == d) (c == f) h, three c f ((a == d) && (b == e)) h)
  where
    one : (a d : ℕ) (s t : Bool) → ((a == d) && s && t) ≡ true → a ≡ d
    one a d true true h = grind (arith, nat_tests)
    one a d true false h = grind (arith, nat_tests)
    one a d false t h = grind (arith, nat_tests)

    two : (b e : ℕ) (s t : Bool) → (s && (b == e) && t) ≡ true → b ≡ e
    two b e true true h = grind (arith, nat_tests)
    two b e true false h = grind (arith, nat_tests)
    two b e false t h = absurd cc

    three : (c f : ℕ) (s : Bool) → (s && (c == f)) ≡ true → c ≡ f
    three c f true h = grind (arith, nat_tests)
    three c f false h = absurd cc

pub same_test : (t : TenancyId → Bool) (a b : TenancyId) → same_id a b ≡ true → t a ≡ t b
same_test t a b h =
    let e = same_numbers a.key.stream a.key.shard a.tenure b.key.stream b.key.shard b.tenure h in
    ap (λ n. t (record { key = record { stream = n; shard = a.key.shard }; tenure = a.tenure })) e.0
    ∙ ap (λ n. t (record { key = record { stream = b.key.stream; shard = n }; tenure = a.tenure })) e.1
    ∙ ap (λ n. t (record { key = b.key; tenure = n })) e.2

pub by_id : (t : TenancyId → Bool) (k : Known) (ks : List Known) → find (λ j. t (id_of j)) ks ≡ Some k
    → (known_of (id_of k) ks ≡ Some k) × (t (id_of k) ≡ true)
by_id t k [] h = absurd cc
by_id t k (x ∷ xs) h = head (t (id_of x)) refl h (λ g. by_id t k xs g)
  where
    same_known : (x k : Known) → Some x ≡ Some k → x ≡ k
    same_known x k e = cc

    passes : (b : Bool) → same_id (id_of x) (id_of k) ≡ b → t (id_of x) ≡ false → t (id_of k) ≡ true → b ≡ false
    passes false e n y = refl
    passes true e n y = absurd (let f = same_test t (id_of x) (id_of k) e in cc)

    head : (b : Bool) → t (id_of x) ≡ b → cond b (Some x) (find (λ j. t (id_of j)) xs) ≡ Some k
        → (find (λ j. t (id_of j)) xs ≡ Some k → (known_of (id_of k) xs ≡ Some k) × (t (id_of k) ≡ true))
        → (known_of (id_of k) (x ∷ xs) ≡ Some k) × (t (id_of k) ≡ true)
    head true e g rest =
        let P : Known → Type 0 = λ j. (known_of (id_of j) (x ∷ xs) ≡ Some j) × (t (id_of j) ≡ true) in
        subst P (same_known x k g) (
          ap (λ b. cond b (Some x) (known_of (id_of x) xs))
              (own_id x.made.key.stream x.made.key.shard x.made.tenure),
          e,
        )
    head false e g rest =
        let r = rest g in
        (ap (λ b. cond b (Some x) (known_of (id_of k) xs)) (passes (same_id (id_of x) (id_of k)) refl e r.1) ∙ r.0, r.1)

-- ---- A fact about all consumers holds of the one that is found

pub all_found : {A : Type 0} (P : A → Type 0) (t : A → Bool) (x : A) (xs : List A) → find t xs ≡ Some x
    → AllByRecursion P xs → P x
all_found P t x [] h all = absurd cc
all_found {A} P t x (y ∷ ys) h all = head (t y) h (λ g. all_found P t x ys g all.1)
  where
    same : (y x : A) → Some y ≡ Some x → y ≡ x
    same y x e = cc

    head : (b : Bool) → cond b (Some y) (find t ys) ≡ Some x → (find t ys ≡ Some x → P x) → P x
    head true g rest = subst P (same y x g) all.0
    head false g rest = rest g

pub ready : {P : Type 0} (cs : List (ConsumerValue P)) → due_in cs ≡ None
    → AllByRecursion (λ c. over_at c.stage ≡ None) cs
    → AllByRecursion IsReady cs
ready [] none all = tt
ready (c ∷ cs) none all = head (due_call c.stage) refl none (λ n. ready cs n all.1)
  where
    head : (o : Option Due) → due_call c.stage ≡ o → due_or c o (due_in cs) ≡ None
        → (due_in cs ≡ None → AllByRecursion IsReady cs) → AllByRecursion IsReady (c ∷ cs)
    head None e n rest = ((e, all.0), rest n)
    head (Some due) e n rest = absurd cc

-- ---- A consumer's command

pub consumer_given : {P : Type 0} (stands : P → List Call → Type 0) (made : WorkerMade) (s : WorkerState)
    (syncs : List SyncStep) (takes : List TakeStep) (last : Option TenancyId) (cs : List (ConsumerValue P))
    (held : List Held)
    (c : ConsumerValue P) (asked : Command) → ConsumersStand stands cs s.consumers → held ≡ s.held
    → past_in last cs ≡ Some c
    → next_command c.made c.stage (counter_of (id_in c) held) ≡ Some asked
    → IsGiven made s syncs takes (Some (from_consumers last s)) (awaited.Consume (id_in c)) asked
consumer_given {P} stands made s syncs takes last cs held c asked stand same found next =
    go (find (λ k. is_past last (id_of k)) s.consumers) refl
    (subst (λ o. IsFoundSo o (find (λ k. is_past last (id_of k)) s.consumers)) found
    (found_so stands (λ id p. is_past last id) cs s.consumers stand))
  where
    go : (o : Option Known) → find (λ k. is_past last (id_of k)) s.consumers ≡ o → IsFoundSo (Some c) o
        → IsGiven made s syncs takes (Some (consumer_chore o)) (awaited.Consume (id_in c)) asked
    go None e f = absurd f
    go (Some k) e f =
        let of_known : next_command k.made (stage_of_known k) (counter_of (id_of k) s.held) ≡ Some asked =
        ap (λ h. next_command k.made (stage_of_known k) (counter_of (id_of k) h)) (sym same)
        ∙ ap (λ p. next_command k.made p (counter_of (id_of k) held)) (sym f.1)
        ∙ ap (λ m. next_command m c.stage (counter_of (record { key = m.key; tenure = m.tenure }) held)) (sym f.0)
        ∙ next in
        record {
          which = Consuming (id_of k);
          is = refl;
          asks = ap (λ m. Some (Consuming (record { key = m.key; tenure = m.tenure }))) f.0;
          command = ap (λ o. consumer_command s o) (by_id (is_past last) k s.consumers e).0 ∙ of_known;
        }

-- After the last consumer, a survey comes next.
pub survey_given : {P : Type 0} (stands : P → List Call → Type 0) (made : WorkerMade) (s : WorkerState)
    (syncs : List SyncStep) (takes : List TakeStep) (last : Option TenancyId) (cs : List (ConsumerValue P))
    → ConsumersStand stands cs s.consumers → past_in last cs ≡ None
    → IsGiven made s syncs takes (Some (from_consumers last s)) awaited.Survey command.Survey
survey_given {P} stands made s syncs takes last cs stand found =
    go (find (λ k. is_past last (id_of k)) s.consumers)
    (subst (λ o. IsFoundSo o (find (λ k. is_past last (id_of k)) s.consumers)) found
    (found_so stands (λ id p. is_past last id) cs s.consumers stand))
  where
    go : (o : Option Known) → IsFoundSo {P = P} None o
        → IsGiven made s syncs takes (Some (consumer_chore o)) awaited.Survey command.Survey
    go None f = record { which = Surveying; is = refl; asks = refl; command = refl }
    go (Some k) f = absurd f

-- ---- At a stop

pub giving_given : {P : Type 0} (stands : P → List Call → Type 0) (made : WorkerMade) (s : WorkerState)
    (syncs : List SyncStep) (takes : List TakeStep) (cs : List (ConsumerValue P)) (c : ConsumerValue P)
    → ConsumersStand stands cs s.consumers → giving_in cs ≡ Some c
    → IsGiven made s syncs takes (stopping_chore s (find is_giving s.consumers)) (awaited.Finish (id_in c))
    (command.Give c.made.tenure)
giving_given stands made s syncs takes cs c stand found =
    go (find is_giving s.consumers)
    (subst (λ o. IsFoundSo o (find is_giving s.consumers)) found
    (found_so stands (λ id p. is_giving_stage p) cs s.consumers stand))
  where
    go : (o : Option Known) → IsFoundSo (Some c) o
        → IsGiven made s syncs takes (stopping_chore s o) (awaited.Finish (id_in c)) (command.Give c.made.tenure)
    go None f = absurd f
    go (Some k) f = record {
      which = Finishing (id_of k);
      is = refl;
      asks = ap (λ m. Some (Finishing (record { key = m.key; tenure = m.tenure }))) f.0;
      command = ap (λ m. Some (command.Give m.tenure)) (sym f.0);
    }

none_giving : {P : Type 0} (stands : P → List Call → Type 0) (s : WorkerState) (cs : List (ConsumerValue P))
    → ConsumersStand stands cs s.consumers → giving_in cs ≡ None
    → stopping_chore s (find is_giving s.consumers) ≡ freeing_chore s.held
none_giving {P} stands s cs stand found =
    go (find is_giving s.consumers)
    (subst (λ o. IsFoundSo o (find is_giving s.consumers)) found
    (found_so stands (λ id p. is_giving_stage p) cs s.consumers stand))
  where
    go : (o : Option Known) → IsFoundSo {P = P} None o → stopping_chore s o ≡ freeing_chore s.held
    go None f = refl
    go (Some k) f = absurd f

-- A stopped worker without a Give frees its first lease.
pub freeing_given : {P : Type 0} (stands : P → List Call → Type 0) (made : WorkerMade) (s : WorkerState)
    (syncs : List SyncStep) (takes : List TakeStep) (cs : List (ConsumerValue P)) (held : List Held) (h : Held)
    (rest : List Held) → ConsumersStand stands cs s.consumers → held ≡ s.held → giving_in cs ≡ None → held ≡ h ∷ rest
    → IsGiven made s syncs takes (stopping_chore s (find is_giving s.consumers)) (awaited.Free h)
    (command.Free h.tenure h.counter)
freeing_given stands made s syncs takes cs held h rest stand same found first = record {
  which = Freeing h;
  is = none_giving stands s cs stand found ∙ ap freeing_chore (sym same ∙ first);
  asks = refl;
  command = refl;
}

-- A stopped worker without a Give or a lease has no next command.
pub nothing_given : {P : Type 0} (stands : P → List Call → Type 0) (s : WorkerState) (cs : List (ConsumerValue P))
    (held : List Held) → ConsumersStand stands cs s.consumers → held ≡ s.held → giving_in cs ≡ None → held ≡ []
    → stopping_chore s (find is_giving s.consumers) ≡ None
nothing_given stands s cs held stand same found none =
    none_giving stands s cs stand found ∙ ap freeing_chore (sym same ∙ none)

-- ---- A command is given

pub none_mapped : (o : Option Pending) → None ≡ option_map (λ p. p.chore) o → o ≡ None
none_mapped None e = refl
none_mapped (Some p) e = absurd cc

pub asked_stands : {P F : Type 0} (stands : P → List Call → Type 0) (w new : WorkerStanding P F) (now : ℕ)
    (syncs : List SyncStep) (takes : List TakeStep) (awaited : Awaited) (asked : Command) (past : WorkerPast)
    → w.waiting ≡ None → new ≡ record w { waiting = chore_of awaited syncs takes }
    → IsGiven w.made (worker_after w.made past) syncs takes
    (chore_from w.made.settings.failover now (worker_after w.made past) w.round) awaited asked → StandsFor stands w past
    → (p : Pending) × (next_pending w.made now (worker_after w.made past) ≡ Some p) × (p.what ≡ asked)
    × StandsFor stands new (Gave_command now ∷ past)
asked_stands {P} {F} stands w new now syncs takes awaited asked past free is g st =
    let s : WorkerState = worker_after w.made past in
    let p : Pending = record { chore = g.which; what = asked } in
    let next : next_pending w.made now s ≡ Some p =
    ap (λ r. pending_chore w.made s (chore_from w.made.settings.failover now s r)) (sym st.shows.round)
    ∙ ap (λ o. pending_chore w.made s o) g.is
    ∙ ap (λ o. pending_of g.which o) g.command in
    let S : WorkerStanding P F → Type 0 = λ v. StandsFor stands v (Gave_command now ∷ past) in (
      p,
      next,
      refl,
      subst S (sym is) (record {
        orderly = (none_mapped s.waiting (sym free ∙ st.shows.waiting), st.orderly);
        shows = record {
          round = st.shows.round;
          waiting = g.asks ∙ sym (ap (λ o. option_map (λ q. q.chore) o) next);
          seen = st.shows.seen;
          held = st.shows.held;
          consumers = st.shows.consumers;
          retired = st.shows.retired;
        };
      }),
    )

-- ---- Lists, by their first element

pub empty_list : {X : Type 0} (xs : List X) → length xs < 1 → xs ≡ []
empty_list [] h = refl
empty_list (x ∷ xs) h = absurd (none (length xs) h)
  where
    none : (n : ℕ) → suc n < 1 → ⊥
    none n h = omega arith

pub first_list : {X : Type 0} (xs : List X) (x : X) → 1 ≤ length xs → x ≡ get_or xs 0 x → xs ≡ x ∷ drop 1 xs
first_list [] x h e = absurd (none h)
  where
    none : 1 ≤ 0 → ⊥
    none h = omega arith
first_list (y ∷ ys) x h e = ap (λ z. z ∷ ys) (sym e)

-- A stopped worker's next command is its first consumer's Give.
pub giving_as : {P : Type 0} (stands : P → List Call → Type 0) (made : WorkerMade) (s : WorkerState)
    (syncs : List SyncStep) (takes : List TakeStep) (cs : List (ConsumerValue P)) (c : ConsumerValue P) (id : TenancyId)
    (t : ℕ)
    → id ≡ id_in c → t ≡ c.made.tenure → ConsumersStand stands cs s.consumers → giving_in cs ≡ Some c
    → IsGiven made s syncs takes (stopping_chore s (find is_giving s.consumers)) (awaited.Finish id) (command.Give t)
giving_as stands made s syncs takes cs c id t a b stand found =
    subst (λ i. IsGiven made s syncs takes (stopping_chore s (find is_giving s.consumers)) (awaited.Finish i)
    (command.Give t)) (sym a)
    (subst (λ n. IsGiven made s syncs takes (stopping_chore s (find is_giving s.consumers)) (awaited.Finish (id_in c))
    (command.Give n)) (sym b)
    (giving_given stands made s syncs takes cs c stand found))

-- In the consumers' part of the round, the command of the first one after `last` comes next.
pub consumer_as : {P : Type 0} (stands : P → List Call → Type 0) (made : WorkerMade) (s : WorkerState)
    (syncs : List SyncStep) (takes : List TakeStep) (last : Option TenancyId) (cs : List (ConsumerValue P))
    (held : List Held)
    (c : ConsumerValue P) (id : TenancyId) (counter : ℕ) (asked : Command) → id ≡ id_in c → counter ≡ counter_of id held
    → ConsumersStand stands cs s.consumers → held ≡ s.held → past_in last cs ≡ Some c
    → next_command c.made c.stage counter ≡ Some asked
    → IsGiven made s syncs takes (Some (from_consumers last s)) (awaited.Consume id) asked
consumer_as stands made s syncs takes last cs held c id counter asked a b stand same found next =
    subst (λ i. IsGiven made s syncs takes (Some (from_consumers last s)) (awaited.Consume i) asked) (sym a)
    (consumer_given stands made s syncs takes last cs held c asked stand same found
    (ap (λ i. next_command c.made c.stage (counter_of i held)) (sym a) ∙ ap (λ n. next_command c.made c.stage n) (sym b)
    ∙ next))

-- ---- Nothing is left to do

none_due_any : {P : Type 0} (cs : List (ConsumerValue P)) → due_in cs ≡ None → list_any is_due cs ≡ false
none_due_any [] none = refl
none_due_any (c ∷ cs) none = head (due_call c.stage) none (λ n. none_due_any cs n)
  where
    head : (o : Option Due) → due_or c o (due_in cs) ≡ None → (due_in cs ≡ None → list_any is_due cs ≡ false)
        → (is_some o || list_any is_due cs) ≡ false
    head None n rest = rest n
    head (Some due) n rest = absurd cc

pub none_found_any : {A : Type 0} (t : A → Bool) (xs : List A) → find t xs ≡ None → list_any t xs ≡ false
none_found_any t [] none = refl
none_found_any {A} t (x ∷ xs) none = head (t x) none (λ n. none_found_any t xs n)
  where
    head : (b : Bool) → cond b (Some x) (find t xs) ≡ None → (find t xs ≡ None → list_any t xs ≡ false)
        → (b || list_any t xs) ≡ false
    head true n rest = absurd cc
    head false n rest = rest n

none_giving_in : {P : Type 0} (stands : P → List Call → Type 0) (cs : List (ConsumerValue P)) (ks : List Known)
    → ConsumersStand stands cs ks → find is_giving ks ≡ None → giving_in cs ≡ None
none_giving_in {P} stands cs ks stand none =
    go (giving_in cs) (subst (λ o. IsFoundSo (giving_in cs) o) none
    (found_so stands (λ id p. is_giving_stage p) cs ks stand))
  where
    go : (o : Option (ConsumerValue P)) → IsFoundSo o None → o ≡ None
    go None f = refl
    go (Some c) f = absurd f

nothing_held : (held : List Held) → freeing_chore held ≡ None → is_nothing_held held ≡ true
nothing_held [] none = refl
nothing_held (h ∷ held) none = absurd cc

nothing_left : (s : WorkerState) (o : Option Known) → stopping_chore s o ≡ None
    → (o ≡ None) × (freeing_chore s.held ≡ None)
nothing_left s None none = (refl, none)
nothing_left s (Some k) none = absurd cc

stops_at : (failover now : ℕ) (s : WorkerState) (round : Round) → chore_from failover now s round ≡ None
    → (is_stopping round ≡ true) × (stopping_chore s (find is_giving s.consumers) ≡ None)
stops_at failover now s AtStopping none = (refl, none)
stops_at failover now s _ none = absurd cc

pub idle_so : {P F : Type 0} (stands : P → List Call → Type 0) (w : WorkerStanding P F) (s : WorkerState)
    (failover now : ℕ) → ShowsState stands w s → due_in w.consumers ≡ None → chore_from failover now s w.round ≡ None
    → is_idle_in w ≡ true
idle_so stands w s failover now shows none chore =
    let r = stops_at failover now s w.round chore in
    let l = nothing_left s (find is_giving s.consumers) r.1 in
    ap (λ b. b && not (list_any is_due w.consumers) && not (list_any (λ c. is_giving_stage c.stage) w.consumers)
    && is_nothing_held w.held) r.0
    ∙ ap (λ b. true && not b && not (list_any (λ c. is_giving_stage c.stage) w.consumers) && is_nothing_held w.held)
    (none_due_any w.consumers none)
    ∙ ap (λ b. true && not false && not b && is_nothing_held w.held)
    (none_found_any (λ c. is_giving_stage c.stage) w.consumers
    (none_giving_in stands w.consumers s.consumers shows.consumers l.0))
    ∙ nothing_held w.held (ap freeing_chore shows.held ∙ l.1)

-- ---- The fields that the code has written. `w` and `old` are the worker before

-- A worker that waits for the next command's answer stands for its trace with the command added.
pub asked_leaves : {P F : Type 0} (stands : P → List Call → Type 0) (w old : WorkerStanding P F) → w ≡ old
    → (now : ℕ) (syncs : List SyncStep) (takes : List TakeStep) (awaited : Awaited) (asked : Command)
    (past : WorkerPast)
    → old.waiting ≡ None → ((s : WorkerState) → ConsumersStand stands w.consumers s.consumers → w.held ≡ s.held
    → IsGiven w.made s syncs takes (chore_from w.made.settings.failover now s w.round) awaited asked)
    → StandsFor stands old past → (p : Pending) × (next_pending old.made now (worker_after old.made past) ≡ Some p)
    × (p.what ≡ asked) × StandsFor stands (record w { waiting = chore_of awaited syncs takes })
    (Gave_command now ∷ past)
asked_leaves {P} {F} stands w old is now syncs takes awaited asked past free is_given st =
    let st0 : StandsFor stands w past = subst (λ v. StandsFor stands v past) (sym is) st in
    let Q : WorkerStanding P F → Type 0 =
    λ v. (p : Pending) × (next_pending v.made now (worker_after v.made past) ≡ Some p) × (p.what ≡ asked)
    × StandsFor stands (record w { waiting = chore_of awaited syncs takes }) (Gave_command now ∷ past) in
    subst Q is
    (asked_stands stands w (record w { waiting = chore_of awaited syncs takes }) now syncs takes awaited asked past
    (ap (λ v. v.waiting) is ∙ free) refl
    (is_given (worker_after w.made past) st0.shows.consumers st0.shows.held) st0)

-- A worker that isn't idle and has no due call has a next chore.
pub none_left : {P F : Type 0} (stands : P → List Call → Type 0) (w old : WorkerStanding P F) → w ≡ old
    → (now : ℕ) (past : WorkerPast) → due_in old.consumers ≡ None → is_idle_in old ≡ false
    → ((s : WorkerState) → ConsumersStand stands w.consumers s.consumers → w.held ≡ s.held
    → chore_from w.made.settings.failover now s w.round ≡ None) → StandsFor stands old past → ⊥
none_left stands w old is now past none busy left st =
    let st0 : StandsFor stands w past = subst (λ v. StandsFor stands v past) (sym is) st in
    let s : WorkerState = worker_after w.made past in
    apart (is_idle_in old)
    (sym (ap is_idle_in is)
    ∙ idle_so stands w s w.made.settings.failover now st0.shows (ap (λ v. due_in v.consumers) is ∙ none)
    (left s st0.shows.consumers st0.shows.held)) busy

-- ---- What callers see of a worker, and its record

pub none_due : {P : Type 0} (stands : P → List Call → Type 0) (cs : List (ConsumerValue P)) (ks : List Known)
    → due_in cs ≡ None → ConsumersStand stands cs ks → find is_due_known ks ≡ None
none_due stands [] [] none s = refl
none_due stands [] (k ∷ ks) none s = absurd s
none_due stands (c ∷ cs) [] none s = absurd s
none_due stands (c ∷ cs) (k ∷ ks) none s =
    head (due_call c.stage) (due_call (stage_of_known k)) (ap due_call (stage_known stands c k (s.0, s.1))) none
    (λ n. none_due stands cs ks n s.2)
  where
    head : (o u : Option Due) → o ≡ u → due_or c o (due_in cs) ≡ None → (due_in cs ≡ None → find is_due_known ks ≡ None)
        → cond (is_some u) (Some k) (find is_due_known ks) ≡ None
    head (Some due) u e n rest = absurd cc
    head None (Some due) e n rest = absurd cc
    head None None e n rest = rest n

any_same : {P : Type 0} (stands : P → List Call → Type 0) (f : Stage → Bool) (cs : List (ConsumerValue P))
    (ks : List Known)
    → ConsumersStand stands cs ks
    → list_any (λ c. f c.stage) cs ≡ list_any (λ k. f (stage_of_known k)) ks
any_same stands f [] [] s = refl
any_same stands f [] (k ∷ ks) s = absurd s
any_same stands f (c ∷ cs) [] s = absurd s
any_same stands f (c ∷ cs) (k ∷ ks) s =
    ap (λ p. f p || list_any (λ d. f d.stage) cs) (stage_known stands c k (s.0, s.1))
    ∙ ap (λ r. f (stage_of_known k) || r) (any_same stands f cs ks s.2)

pub idle_same : {P F : Type 0} (stands : P → List Call → Type 0) (w : WorkerStanding P F) (past : WorkerPast)
    → StandsFor stands w past → is_idle_in w ≡ is_idle (worker_after w.made past)
idle_same stands w past s =
    let state = worker_after w.made past in
    let shows = s.shows in
    let same : (f : Stage → Bool)
    → list_any (λ c. f c.stage) w.consumers ≡ list_any (λ k. f (stage_of_known k)) state.consumers =
    λ f. any_same stands f w.consumers state.consumers shows.consumers in
    ap (λ r. is_stopping r && not (is_due_in w) && not (is_giving_in w) && is_nothing_held w.held) shows.round
    ∙ ap (λ b. is_stopping state.round && not b && not (is_giving_in w) && is_nothing_held w.held)
    (same (λ p. is_some (due_call p)))
    ∙ ap (λ b. is_stopping state.round && not (list_any is_due_known state.consumers) && not b
    && is_nothing_held w.held) (same is_giving_stage)
    ∙ ap (λ h. is_stopping state.round && not (list_any is_due_known state.consumers)
    && not (list_any is_giving state.consumers) && is_nothing_held h)
    shows.held
