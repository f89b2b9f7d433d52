-- Each batch that the processor of a retired consumer was handed is given.
use Rattle.std.proofs.Common.{◌≡◌, ℕ, ◌+◌, ◌≤◌, Bool, true, false, List, [], ◌∷◌, ◌++◌, length, Option, Some, None, Ok}
use Rattle.std.proofs.Common.{Err, refl, sym, ap, subst, ◌∙◌, arith, inl, inr, length-append}
use Rattle.std.specs.Prelude.{◌⊎◌, is_some, not, cond, if◌then◌else◌, Result}
use Rattle.std.specs.List.{AllByRecursion, filter}
use Rattle.std.proofs.lemmas.Bool.{or_from}
use Rattle.std.proofs.lemmas.Option.{same_Some}
use Rattle.kds_base.proofs.Facts.{all_append, all_filter}
use Rattle.kds_defs.specs.declared.command.Command.{Command}
use Rattle.kds_defs.specs.declared.command.Turn.{Turn}
use Rattle.kcl_defs.specs.declared.consumer.Ask.{Ask}
use Rattle.kcl_defs.specs.declared.consumer.Ask.TheVariants as ask
use Rattle.kcl_defs.specs.declared.consumer.Call.{Call}
use Rattle.kcl_defs.specs.declared.consumer.Fetched.{Fetched}
use Rattle.kcl_defs.specs.declared.consumer.Tenancy.{Tenancy}
use Rattle.kcl_defs.specs.declared.consumer.WorkerMade.{WorkerMade}
use Rattle.kcl_defs.specs.declared.plans.Held.{Held}
use Rattle.kcl_defs.specs.declared.plans.TenancyId.{TenancyId}
use Rattle.kcl_defs.specs.declared.plans.TakeStep.{TakeStep}
use Rattle.kds_defs.specs.declared.reply.Refusal.{Refusal}
use Rattle.kds_defs.specs.declared.reply.Reply.{Reply}
use Rattle.kds_defs.specs.declared.reply.Reply.TheVariants as reply
use Rattle.kcl_defs.specs.Consumers.{Called, Answered, Losing, Stage, Giving, Over, next_command, over_at, calls_after}
use Rattle.kcl_defs.specs.Lives.{Deal, reads_in, gives_in, reads_after, gives_after, IsWholeLife}
use Rattle.kcl_defs.specs.Workers.{Known, Pending, Chore, Surveying, Syncing, Taking, Renewing, Consuming, Finishing}
use Rattle.kcl_defs.specs.Workers.{Freeing, WorkerState, WorkerEvent, Made_call, Gave_command, Got_answer, Stopped}
use Rattle.kcl_defs.specs.Workers.{Released, Release, released, without_release, WorkerPast, worker_after}
use Rattle.kcl_defs.specs.Workers.{after_worker_event, deals_after, deals_with, id_of, id_of_held, same_id, with_event}
use Rattle.kcl_defs.specs.Workers.{happens_to, happens_to_first, is_due_known, after_retiring, is_over, known_of}
use Rattle.kcl_defs.specs.Workers.{consumer_command, stage_of_known, counter_of, after_survey, after_renewal}
use Rattle.kcl_defs.specs.Workers.{after_take, after_chore, absorbed, with_deal, consumed, is_of, still_stands, AtTakes}
use Rattle.kcl_defs.specs.Workers.{AtRenewals, AtStopping}
use Rattle.kcl_defs.specs.WorkerLives.{IsOrderly, IsToldIn, AreServed}
use Rattle.kcl_defs.proofs.LifeLemmas.{Holds, StandsGiving, holds, whole}
use Rattle.kcl_defs.proofs.SettledLemmas.{Settles, IsSettled, refused_at, was_refused, settles}
use Rattle.kcl_defs.proofs.GiveLemmas.{IsGiveTaken, AreGivesTaken, gives_taken}
use Rattle.kcl_defs.proofs.DealLemmas.{new_tenures}
use Rattle.kcl_defs.proofs.TenancyLemmas.{all_both, all_tenures, begun_told}
use Rattle.kcl_defs.proofs.KnownLemmas.{InStep, all_event, all_first, all_with_known}
use Rattle.kcl_defs.proofs.FineLemmas.{AreNewTenures, IsFine, IsOwnCommand, IsWaitingOk}
use Rattle.kcl_defs.proofs.WorkerLemmas.{all_without, fine, live_served, new_before, own_without}

-- ---- A Give of a consumer that has a batch to give isn't refused

more_than : (reads done waiting : List Fetched) (f : Fetched) (gives : ℕ) → reads ≡ done ++ (f ∷ waiting)
    → length done ≡ gives → length reads ≤ gives → ⊥
more_than reads done waiting f gives all count few =
    more (length reads) (length done) (length waiting) gives (ap length all ∙ length-append done (f ∷ waiting)
    ∙ cases (length done) (length waiting)) count few
  where
    cases : (a b : ℕ) → a + length (f ∷ waiting) ≡ a + (length waiting + 1)
    cases a b = omega arith

    more : (a b c g : ℕ) → a ≡ b + (c + 1) → b ≡ g → a ≤ g → ⊥
    more a b c g h i j = omega arith

giving_waits : (made : Tenancy) (waiting : List Fetched) (reads : List Fetched) (gives : ℕ) (calls : List Call)
    → StandsGiving made waiting reads gives calls → length reads ≤ gives → ⊥
giving_waits made [] reads gives calls s few = s.some
giving_waits made (f ∷ waiting) reads gives calls s few =
    more_than reads s.stands.done waiting f gives s.stands.all s.stands.count few

give_accepted : (made : Tenancy) (stage : Stage) (counter : ℕ) (command : Command) (answer : Result Reply Refusal)
    (deals : List Deal) (calls : List Call) → next_command made stage counter ≡ Some command
    → IsGiveTaken command answer deals
    → Holds made stage (reads_in made.tenure deals) (gives_in made.tenure deals) calls
    → refused_at stage (Answered answer) ≡ false
give_accepted made (Giving reach waiting asked lost) counter command (Err r) deals calls next taken h =
    let P : Command → Type 0 = λ w. IsGiveTaken w (Err r) deals in
    absurd (giving_waits made waiting (reads_in made.tenure deals) (gives_in made.tenure deals) calls h
    (subst P (sym (same_Some _ command next)) taken))
give_accepted made (Giving reach waiting asked lost) counter command (Ok reply) deals calls next taken h = refl
give_accepted made _ counter command answer deals calls next taken h = refl

-- ---- No Give of any consumer was refused

-- No Give of the consumer was refused.
abbrev pub IsUnrefused : Known → Type 0
IsUnrefused k = was_refused k.made k.past ≡ false

-- The consumer is over.
abbrev pub HasEnded : Known → Type 0
HasEnded k = is_over k ≡ true

-- No Give of any consumer was refused, and each retired one is over.
pub record AreUnrefused (consumers retired : List Known) : Type 0 where
  pub live : AllByRecursion IsUnrefused consumers
  pub over : AllByRecursion IsUnrefused retired
  pub ended : AllByRecursion HasEnded retired

no_give : (stage : Stage) (asked : Ask) → (refused_at stage (Called asked) ≡ false) × (refused_at stage Losing ≡ false)
no_give (Giving reach waiting target known) asked = (refl, refl)
no_give _ asked = (refl, refl)

pub called_unrefused : (asked : Ask) (k : Known) → IsUnrefused k → IsUnrefused (with_event (Called asked) k)
called_unrefused asked k h =
    or_from (refused_at (stage_of_known k) (Called asked)) (was_refused k.made k.past)
    (no_give (stage_of_known k) asked).0 h

pub lost_unrefused : (k : Known) → IsUnrefused k → IsUnrefused (with_event Losing k)
lost_unrefused k h = or_from (refused_at (stage_of_known k) Losing) (was_refused k.made k.past)
    (no_give (stage_of_known k) ask.None).1 h

all_passed : (p : Known → Bool) (xs : List Known) → AllByRecursion (λ k. p k ≡ true) (filter p xs)
all_passed p [] = tt
all_passed p (x ∷ xs) = head (p x) refl (all_passed p xs)
  where
    head : (b : Bool) → p x ≡ b → AllByRecursion (λ k. p k ≡ true) (filter p xs)
        → AllByRecursion (λ k. p k ≡ true) (cond b (x ∷ filter p xs) (filter p xs))
    head true e rest = (e, rest)
    head false e rest = rest

settle_unrefused : (w : WorkerState) → AreUnrefused w.consumers w.retired
    → AreUnrefused (after_retiring w).consumers (after_retiring w).retired
settle_unrefused w u = record {
  live = all_filter IsUnrefused (λ k. not (is_over k)) w.consumers u.live;
  over = all_append IsUnrefused w.retired (filter is_over w.consumers) u.over
      (all_filter IsUnrefused is_over w.consumers u.live);
  ended = all_append HasEnded w.retired (filter is_over w.consumers) u.ended (all_passed is_over w.consumers);
}

losing_unrefused : (test : Known → Bool) (consumers retired : List Known) → AreUnrefused consumers retired
    → AreUnrefused (happens_to test Losing consumers) retired
losing_unrefused test consumers retired u = record {
  live = all_event IsUnrefused test Losing consumers lost_unrefused u.live;
  over = u.over;
  ended = u.ended;
}

step_kept : (deals : List Deal) (k : Known) → InStep deals k
    → Holds k.made (stage_of_known k) (reads_in k.made.tenure deals) (gives_in k.made.tenure deals)
    (calls_after k.made k.past)
step_kept deals k s =
    let P : List Fetched → Type 0 =
    λ rs. Holds k.made (stage_of_known k) rs (gives_in k.made.tenure deals) (calls_after k.made k.past) in
    let Q : ℕ → Type 0 = λ n.
    Holds k.made (stage_of_known k) (reads_after k.made k.past) n (calls_after k.made k.past) in
    subst P (sym s.reads) (subst Q (sym s.gives) (holds k.made k.past))

pub answered_unrefused : (deals : List Deal) (k : Known) (counter : ℕ) (command : Command)
    (answer : Result Reply Refusal)
    → next_command k.made (stage_of_known k) counter ≡ Some command → IsGiveTaken command answer deals → InStep deals k
    → IsUnrefused k → IsUnrefused (with_event (Answered answer) k)
answered_unrefused deals k counter command answer next taken s h =
    or_from (refused_at (stage_of_known k) (Answered answer)) (was_refused k.made k.past)
    (give_accepted k.made (stage_of_known k) counter command answer deals (calls_after k.made k.past) next taken
    (step_kept deals k s)) h

same_known : (x k : Known) → Some x ≡ Some k → k ≡ x
same_known x k e = cc

consumed_unrefused : (id : TenancyId) (deals : List Deal) (k : Known) (counter : ℕ) (command : Command)
    (answer : Result Reply Refusal) (xs : List Known) → next_command k.made (stage_of_known k) counter ≡ Some command
    → IsGiveTaken command answer deals → known_of id xs ≡ Some k → AllByRecursion (InStep deals) xs
    → AllByRecursion IsUnrefused xs → AllByRecursion IsUnrefused (consumed id answer xs)
consumed_unrefused id deals k counter command answer [] next taken found steps h = tt
consumed_unrefused id deals k counter command answer (x ∷ xs) next taken found steps h =
    head (same_id (id_of x) id) found
    (λ g. consumed_unrefused id deals k counter command answer xs next taken g steps.1 h.1)
  where
    head : (b : Bool) → cond b (Some x) (known_of id xs) ≡ Some k
        → (known_of id xs ≡ Some k → AllByRecursion IsUnrefused (consumed id answer xs))
        → AllByRecursion IsUnrefused (if b then with_event (Answered answer) x ∷ xs else x ∷ consumed id answer xs)
    head true g rest =
        let P : Known → Type 0 = λ j. next_command j.made (stage_of_known j) counter ≡ Some command in
        (answered_unrefused deals x counter command answer (subst P (same_known x k g) next) taken steps.0 h.0, h.1)
    head false g rest = (h.0, rest g)

own_unrefused : (id : TenancyId) (deals : List Deal) (command : Command) (answer : Result Reply Refusal)
    (w : WorkerState)
    (o : Option Known) → known_of id w.consumers ≡ o → consumer_command w o ≡ Some command
    → IsGiveTaken command answer deals
    → AllByRecursion (InStep deals) w.consumers → AreUnrefused w.consumers w.retired
    → AreUnrefused (consumed id answer w.consumers) w.retired
own_unrefused id deals command answer w None found next taken steps u = absurd cc
own_unrefused id deals command answer w (Some k) found next taken steps u = record {
  live = consumed_unrefused id deals k (counter_of (id_of k) w.held) command answer w.consumers next taken found steps
      u.live;
  over = u.over;
  ended = u.ended;
}

-- ---- Answers

survey_unrefused : (made : WorkerMade) (now : ℕ) (answer : Result Reply Refusal) (w : WorkerState)
    → AreUnrefused w.consumers w.retired
    → AreUnrefused (after_survey made now answer w).consumers (after_survey made now answer w).retired
survey_unrefused made now (Ok (reply.Survey shards rows)) w u =
    losing_unrefused (is_of (filter (λ h. not (still_stands rows h)) w.held)) w.consumers w.retired u
survey_unrefused made now (Ok _) w u = u
survey_unrefused made now (Err r) w u = u

take_unrefused : (made : WorkerMade) (now : ℕ) (step : TakeStep) (answer : Result Reply Refusal) (w : WorkerState)
    → AreUnrefused w.consumers w.retired
    → AreUnrefused (after_take made now step answer w).consumers (after_take made now step answer w).retired
take_unrefused made now step (Ok (reply.Taken tenure counter start)) w u = record {
  live = all_with_known IsUnrefused
      (record {
        made = record { key = step.key; tenure = tenure; start = start; limit = made.settings.limit };
        past = [];
      }) w.consumers refl u.live;
  over = u.over;
  ended = u.ended;
}
take_unrefused made now step (Ok _) w u = u
take_unrefused made now step (Err r) w u = u

renewal_unrefused : (now : ℕ) (h : Held) (answer : Result Reply Refusal) (w : WorkerState)
    → AreUnrefused w.consumers w.retired
    → AreUnrefused (after_renewal now h answer w).consumers (after_renewal now h answer w).retired
renewal_unrefused now h (Ok (reply.Counter counter)) w u = u
renewal_unrefused now h (Ok _) w u = u
renewal_unrefused now h (Err r) w u = losing_unrefused (λ k. same_id (id_of k) (id_of_held h)) w.consumers w.retired u

chore_unrefused : (made : WorkerMade) (now : ℕ) (answer : Result Reply Refusal) (deals : List Deal) (chore : Chore)
    (command : Command) (w : WorkerState) → IsOwnCommand chore command w → IsGiveTaken command answer deals
    → AllByRecursion (InStep deals) w.consumers → AreUnrefused w.consumers w.retired
    → AreUnrefused (after_chore made now answer chore w).consumers (after_chore made now answer chore w).retired
chore_unrefused made now answer deals Surveying command w is taken steps u = survey_unrefused made now answer w u
chore_unrefused made now answer deals (Syncing step syncs takes) command w is taken steps u = u
chore_unrefused made now answer deals (Taking step takes) command w is taken steps u =
    take_unrefused made now step answer (record w { round = AtTakes takes }) u
chore_unrefused made now answer deals (Renewing h) command w is taken steps u =
    renewal_unrefused now h answer (record w { round = AtRenewals (Some (id_of_held h)) }) u
chore_unrefused made now answer deals (Consuming id) command w is taken steps u =
    own_unrefused id deals command answer w (known_of id w.consumers) refl is taken steps u
chore_unrefused made now answer deals (Finishing id) command w is taken steps u =
    own_unrefused id deals command answer w (known_of id w.consumers) refl is taken steps u
chore_unrefused made now answer deals (Freeing h) command w is taken steps u = u

absorbed_unrefused : (made : WorkerMade) (now : ℕ) (answer : Result Reply Refusal) (deals : List Deal) (w : WorkerState)
    (o : Option Pending) → IsWaitingOk o w → AreGivesTaken (with_deal o answer deals)
    → AllByRecursion (InStep deals) w.consumers → AreUnrefused w.consumers w.retired
    → AreUnrefused (absorbed made now answer w o).consumers (absorbed made now answer w o).retired
absorbed_unrefused made now answer deals w None is taken steps u = u
absorbed_unrefused made now answer deals w (Some p) is taken steps u =
    settle_unrefused (after_chore made now answer p.chore (record w { waiting = None }))
    (chore_unrefused made now answer deals p.chore p.what (record w { waiting = None })
    (own_without p.chore p.what w is)
    taken.0 steps u)

-- ---- The record

release_unrefused : (o : Option Release) (w : WorkerState) → AreUnrefused w.consumers w.retired
    → AreUnrefused (without_release o w).consumers (without_release o w).retired
release_unrefused None w u = u
release_unrefused (Some r) w u = record {
  live = all_without IsUnrefused (id_of_held r.held) w.consumers u.live;
  over = u.over;
  ended = u.ended;
}

pub state_unrefused : (made : WorkerMade) (event : WorkerEvent) (w : WorkerState) (deals : List Deal)
    → AreGivesTaken (deals_with event w deals) → IsFine deals w → AreUnrefused w.consumers w.retired
    → AreUnrefused (after_worker_event made event w).consumers (after_worker_event made event w).retired
state_unrefused made (Made_call asked) w deals taken f u =
    settle_unrefused (record w { consumers = happens_to_first is_due_known (Called asked) w.consumers }) (record {
      live = all_first IsUnrefused is_due_known (Called asked) w.consumers (called_unrefused asked) u.live;
      over = u.over;
      ended = u.ended;
    })
state_unrefused made (Gave_command now) w deals taken f u = u
state_unrefused made (Got_answer now answer) w deals taken f u =
    absorbed_unrefused made now answer deals w w.waiting f.waits taken f.good.live u
state_unrefused made Stopped w deals taken f u =
    settle_unrefused (record w { round = AtStopping; consumers = happens_to (λ k. true) Losing w.consumers })
    (losing_unrefused (λ k. true) w.consumers w.retired u)
state_unrefused made (Released key) w deals taken f u = release_unrefused (released key w) w u

event_unrefused : (made : WorkerMade) (event : WorkerEvent) (past : WorkerPast)
    → AreGivesTaken (deals_after made (event ∷ past)) → IsFine (deals_after made past) (worker_after made past)
    → AreUnrefused (worker_after made past).consumers (worker_after made past).retired
    → AreUnrefused (worker_after made (event ∷ past)).consumers (worker_after made (event ∷ past)).retired
event_unrefused made event past taken f u =
    state_unrefused made event (worker_after made past) (deals_after made past) taken f u

taken_before : (made : WorkerMade) (event : WorkerEvent) (past : WorkerPast)
    → AreGivesTaken (deals_after made (event ∷ past)) → AreGivesTaken (deals_after made past)
taken_before made (Got_answer now answer) past h = cases (worker_after made past).waiting h
  where
    cases : (o : Option Pending) → AreGivesTaken (with_deal o answer (deals_after made past))
        → AreGivesTaken (deals_after made past)
    cases None h = h
    cases (Some p) h = h.1
taken_before made (Made_call asked) past h = h
taken_before made (Gave_command now) past h = h
taken_before made Stopped past h = h
taken_before made (Released key) past h = h

unrefused : (made : WorkerMade) (past : WorkerPast) → IsOrderly made past → AreNewTenures (deals_after made past)
    → AreGivesTaken (deals_after made past)
    → AreUnrefused (worker_after made past).consumers (worker_after made past).retired
unrefused made [] orderly new taken = record { live = tt; over = tt; ended = tt }
unrefused made (event ∷ past) orderly new taken =
    let newer = new_before event (worker_after made past) (deals_after made past) new in
    event_unrefused made event past taken (fine made past orderly.1 newer)
    (unrefused made past orderly.1 newer (taken_before made event past taken))

-- ---- The calls of the processors

settled_life : (made : Tenancy) (reads : List Fetched) (gives : ℕ) (calls : List Call)
    → (calls ≡ []) ⊎ IsSettled made reads gives calls → IsWholeLife made reads gives calls
settled_life made reads gives calls (inl none) = inl none
settled_life made reads gives calls (inr s) = inr (whole made s.waiting s.ending reads gives calls s.stands s.ends)

over_life : (made : Tenancy) (stage : Stage) (reads : List Fetched) (gives : ℕ) (calls : List Call)
    → is_some (over_at stage) ≡ true → Settles made stage reads gives calls → IsWholeLife made reads gives calls
over_life made (Over why) reads gives calls over s = settled_life made reads gives calls s
over_life made _ reads gives calls over s = absurd cc

pub whole_among : (deals : List Deal) (k : Known) → InStep deals k → IsUnrefused k → HasEnded k
    → IsWholeLife k.made (reads_in k.made.tenure deals) (gives_in k.made.tenure deals) (calls_after k.made k.past)
whole_among deals k s unrefused over =
    let P : List Fetched → Type 0 =
    λ rs. IsWholeLife k.made rs (gives_in k.made.tenure deals) (calls_after k.made k.past) in
    let Q : ℕ → Type 0 = λ n. IsWholeLife k.made (reads_after k.made k.past) n (calls_after k.made k.past) in
    subst P (sym s.reads) (subst Q (sym s.gives)
    (over_life k.made (stage_of_known k) (reads_after k.made k.past) (gives_after k.made k.past)
    (calls_after k.made k.past) over (settles k.made k.past unrefused)))

pub all_whole : (deals : List Deal) (xs : List Known) → AllByRecursion (InStep deals) xs → AllByRecursion IsUnrefused xs
    → AllByRecursion HasEnded xs
    → AllByRecursion (λ k. IsWholeLife k.made (reads_in k.made.tenure deals) (gives_in k.made.tenure deals)
    (calls_after k.made k.past)) xs
all_whole deals [] steps u e = tt
all_whole deals (k ∷ xs) steps u e = (whole_among deals k steps.0 u.0 e.0, all_whole deals xs steps.1 u.1 e.1)

retired_whole : (made : WorkerMade) (past : WorkerPast) → IsOrderly made past → AreNewTenures (deals_after made past)
    → AreGivesTaken (deals_after made past)
    → AllByRecursion (λ k.
    IsWholeLife k.made (reads_in k.made.tenure (deals_after made past))
    (gives_in k.made.tenure (deals_after made past)) (calls_after k.made k.past)) (worker_after made past).retired
retired_whole made past orderly new taken =
    let u = unrefused made past orderly new taken in
    all_whole (deals_after made past) (worker_after made past).retired (fine made past orderly new).good.over u.over
    u.ended

-- All consumers of a worker whose trace fits a history are served.
pub are_served : (actor : ℕ) (h : List Turn) (made : WorkerMade) (past : WorkerPast) → IsOrderly made past
    → IsToldIn actor h made past → AreServed actor h made past
are_served actor h made past orderly is_told =
    let new = subst AreNewTenures is_told (new_tenures actor h) in
    let w = worker_after made past in
    let begun = begun_told actor h made past is_told in
    let Q : List Deal → Type 0 =
    λ deals. AllByRecursion
    (λ k. IsWholeLife k.made (reads_in k.made.tenure deals) (gives_in k.made.tenure deals)
    (calls_after k.made k.past)) w.retired in
    record {
      consumers = all_both _ _ w.consumers (all_tenures actor h w.consumers begun.live)
          (live_served actor h made past orderly is_told (new_tenures actor h));
      retired = all_both _ _ w.retired (all_tenures actor h w.retired begun.over)
          (subst Q (sym is_told)
          (retired_whole made past orderly new (subst AreGivesTaken is_told (gives_taken actor h))));
    }
