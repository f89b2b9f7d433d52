-- Each consumer belongs to a tenure of the journal with its key and its starting checkpoint.
use Rattle.std.proofs.Common.{◌≡◌, ℕ, ◌+◌, ◌<◌, Bool, true, false, List, [], ◌∷◌, Option, Some, None, Ok, Err, refl}
use Rattle.std.proofs.Common.{sym, ap, subst, ◌∙◌, arith, inl, inr}
use Rattle.std.specs.Prelude.{◌==◌, ◌⊎◌, not, cond, Result}
use Rattle.std.specs.List.{AllByRecursion, filter}
use Rattle.std.specs.Option.{option_map}
use Rattle.std.proofs.lemmas.Bool.Decides.{nat_tests}
use Rattle.kds_base.specs.declared.lease_key.Checkpoint.{Checkpoint}
use Rattle.kds_base.specs.declared.lease_key.ShardRef.{ShardRef}
use Rattle.kds_base.proofs.Facts.{equal_so, all_append, all_filter, all_weaker}
use Rattle.kds_defs.specs.declared.command.Command.{Command}
use Rattle.kds_defs.specs.declared.command.Command.TheVariants as command
use Rattle.kds_defs.specs.declared.command.Turn.{Turn}
use Rattle.kds_defs.specs.declared.entry.Entry.{Entry}
use Rattle.kds_defs.specs.declared.entry.Entry.TheVariants as entry
use Rattle.kds_defs.specs.declared.reply.Refusal.{Refusal}
use Rattle.kds_defs.specs.declared.reply.Reply.{Reply}
use Rattle.kds_defs.specs.declared.reply.Reply.TheVariants as reply
use Rattle.kds_defs.specs.Histories.{decide, lines_of, answer_of, journal, clock, answer}
use Rattle.kds_defs.specs.Journal.{Line, Journal, with_lines}
use Rattle.kds_defs.specs.LeaseCommands.{take_lease}
use Rattle.kds_defs.specs.Leases.{TenureState, tenure, tenure_after, taken_count, new_tenure, with_opened, with_read}
use Rattle.kds_defs.specs.Leases.{with_given, row, checkpoint_in}
use Rattle.kcl_defs.specs.declared.consumer.Tenancy.{Tenancy}
use Rattle.kcl_defs.specs.declared.consumer.WorkerMade.{WorkerMade}
use Rattle.kcl_defs.specs.declared.plans.Held.{Held}
use Rattle.kcl_defs.specs.declared.plans.TakeStep.{TakeStep}
use Rattle.kcl_defs.specs.Consumers.{Called, Answered, Losing}
use Rattle.kcl_defs.specs.Lives.{Deal, deals_of}
use Rattle.kcl_defs.specs.Workers.{Known, Pending, Chore, Surveying, Syncing, Taking, Renewing, Consuming, Finishing}
use Rattle.kcl_defs.specs.Workers.{Freeing, WorkerState, WorkerEvent, Made_call, Gave_command, Got_answer, Stopped}
use Rattle.kcl_defs.specs.Workers.{Released, Release, released, without_release, WorkerPast, worker_after}
use Rattle.kcl_defs.specs.Workers.{after_worker_event, deals_after, deals_with, id_of, id_of_held, same_id}
use Rattle.kcl_defs.specs.Workers.{is_due_known, after_retiring, is_over, consumer_command, known_of, pending_of}
use Rattle.kcl_defs.specs.Workers.{pending_chore, chore_at, after_survey, after_renewal, after_take, after_chore}
use Rattle.kcl_defs.specs.Workers.{absorbed, with_deal, consumed, is_of, still_stands, AtTakes, AtRenewals, AtStopping}
use Rattle.kcl_defs.specs.Workers.{happens_to, happens_to_first}
use Rattle.kcl_defs.specs.WorkerLives.{IsOfTenure, IsToldIn}
use Rattle.kds_defs.proofs.Leads.{Leads, leads_so, past_none, past_test}
use Rattle.kcl_defs.proofs.DealLemmas.{unborn}
use Rattle.kcl_defs.proofs.KnownLemmas.{all_event, all_first, all_with_known}
use Rattle.kcl_defs.proofs.WorkerLemmas.{all_without}

-- ---- A tenure of the journal keeps its actor, its key and its starting checkpoint

-- There is a tenure of the actor `actor`, with the key and starting checkpoint in `made`.
abbrev pub TenureIs : ℕ → Tenancy → Option TenureState → Type 0
TenureIs actor made None = ⊥
TenureIs actor made (Some T) = (T.by ≡ actor) × (T.key ≡ made.key) × (T.start ≡ made.start)

kept_map : (f : TenureState → TenureState) → ((T : TenureState) → (f T).by ≡ T.by)
    → ((T : TenureState) → (f T).key ≡ T.key)
    → ((T : TenureState) → (f T).start ≡ T.start) → (actor : ℕ) (made : Tenancy) (o : Option TenureState) (b : Bool)
    → TenureIs actor made o
    → TenureIs actor made (cond b (option_map f o) o)
kept_map f by_same key_same start_same actor made o false h = h
kept_map f by_same key_same start_same actor made None true h = h
kept_map f by_same key_same start_same actor made (Some T) true h =
    (by_same T ∙ h.0, key_same T ∙ h.1, start_same T ∙ h.2)

taken_again : (log : Journal) (actor t : ℕ) (made : Tenancy) (o : Option TenureState) (b : Bool)
    → (t == taken_count log + 1) ≡ b → TenureIs actor made (tenure log t)
    → TenureIs actor made (cond b o (tenure log t))
taken_again log actor t made o false e h = h
taken_again log actor t made o true e h =
    let none : tenure log t ≡ None = ap (tenure log) (equal_so t (taken_count log + 1) e)
    ∙ unborn log (taken_count log + 1) (above (taken_count log)) in
    absurd (subst (TenureIs actor made) none h)
  where
    above : (n : ℕ) → n < n + 1
    above n = omega arith

kept_at : (log : Journal) (line : Line) (change : Entry) (actor t : ℕ) (made : Tenancy)
    → TenureIs actor made (tenure log t)
    → TenureIs actor made (tenure_after log line change t (tenure log t))
kept_at log line (entry.Taken key which counter owner) actor t made h =
    taken_again log actor t made (Some (new_tenure line.by key (checkpoint_in (row log key))))
    (t == taken_count log + 1)
    refl h
kept_at log line (entry.Opened which) actor t made h =
    kept_map with_opened (λ T. refl) (λ T. refl) (λ T. refl) actor made (tenure log t) (which == t) h
kept_at log line (entry.Read which limit ended numbers) actor t made h =
    kept_map (with_read numbers ended) (λ T. refl) (λ T. refl) (λ T. refl) actor made (tenure log t) (which == t) h
kept_at log line (entry.Given which) actor t made h =
    kept_map with_given (λ T. refl) (λ T. refl) (λ T. refl) actor made (tenure log t) (which == t) h
kept_at log line _ actor t made h = h

kept_lines : (lines : List Line) (log : Journal) (actor t : ℕ) (made : Tenancy) → TenureIs actor made (tenure log t)
    → TenureIs actor made (tenure (with_lines lines log) t)
kept_lines [] log actor t made h = h
kept_lines (line ∷ lines) log actor t made h =
    kept_lines lines (line ∷ log) actor t made (kept_at log line line.what actor t made h)

-- ---- An accepted Take begins a tenure

-- The command is an accepted Take that began the tenure in `made`.
pub record IsTaken (made : Tenancy) (request : Command) (answer : Result Reply Refusal) : Type 0 where
  pub counter : ℕ
  pub owner : ℕ
  pub now : ℕ
  pub asked : request ≡ command.Take made.key counter owner
  pub taken : answer ≡ Ok (reply.Taken made.tenure now made.start)

-- One of the commands is the accepted Take that began the tenure in `made`.
abbrev pub IsBegunIn : List Deal → Tenancy → Type 0
IsBegunIn [] made = ⊥
IsBegunIn (deal ∷ deals) made = IsTaken made deal.what deal.answer ⊎ IsBegunIn deals made

-- If the answer says that the tenure in `made` has begun, the journal after these lines has it.
abbrev TakesSo : ℕ → ShardRef → Journal → List Line → Result Reply Refusal → Type 0
TakesSo actor key log lines answer =
    (made : Tenancy) (now : ℕ) → made.key ≡ key → answer ≡ Ok (reply.Taken made.tenure now made.start)
    → TenureIs actor made
    (tenure (with_lines lines log) made.tenure)

same_taken : (t u n m : ℕ) (s r : Checkpoint) (a : Result Reply Refusal) → a ≡ Ok (reply.Taken t n s)
    → a ≡ Ok (reply.Taken u m r) → (t ≡ u) × (s ≡ r)
same_taken t u n m s r a e g = (cc, cc)

no_taken : (r : Refusal) (result : Reply) (a : Result Reply Refusal) → a ≡ Err r → a ≡ Ok result → ⊥
no_taken r result a e g = cc

new_is : (log : Journal) (actor t : ℕ) (key : ShardRef) (made : Tenancy) (start : Checkpoint) → made.key ≡ key
    → made.start ≡ start → t ≡ taken_count log + 1
    → TenureIs actor made (cond (t == taken_count log + 1) (Some (new_tenure actor key start)) (tenure log t))
new_is log actor t key made start k s e =
    subst (λ b. TenureIs actor made (cond b (Some (new_tenure actor key start)) (tenure log t)))
    (sym (equal t (taken_count log + 1) e)) (refl, sym k, sym s)
  where
    equal : (a b : ℕ) → a ≡ b → (a == b) ≡ true
    equal a b h = grind (arith, nat_tests)

take_begins : (log : Journal) (c actor : ℕ) (key : ShardRef) (counter owner : ℕ)
    → Leads (TakesSo actor key log) (take_lease log c actor key counter owner)
take_begins log c actor key counter owner =
    let P : List Line → Result Reply Refusal → Type 0 = TakesSo actor key log in
    let refused : (r : Refusal) → P [] (Err r) =
    λ r made now k e. absurd (no_taken r (reply.Taken made.tenure now made.start) (Err r) refl e) in
    past_none P refused _ _ _
    (λ r is. past_test P refused _ _ _ (λ a. past_test P refused _ _ _ (λ b. past_test P refused _ _ _ (λ d.
    λ made now k e.
    let same = same_taken (taken_count log + 1) made.tenure (r.counter + 1) now r.checkpoint made.start
    (Ok (reply.Taken (taken_count log + 1) (r.counter + 1) r.checkpoint)) refl e in
    new_is log actor made.tenure key made (checkpoint_in (row log key)) k (sym same.1 ∙ sym (ap checkpoint_in is))
    (sym same.0)))))

begun_now : (actor c : ℕ) (asked : Command) (log : Journal) (made : Tenancy)
    → IsTaken made asked (answer_of (decide log c actor asked))
    → TenureIs actor made (tenure (with_lines (lines_of (decide log c actor asked)) log) made.tenure)
begun_now actor c asked log made t =
    let P : Command → Type 0 = λ w. answer_of (decide log c actor w) ≡ Ok (reply.Taken made.tenure t.now made.start)
    → TenureIs actor made
    (tenure (with_lines (lines_of (decide log c actor w)) log) made.tenure) in
    subst P (sym t.asked)
    (λ e. leads_so (TakesSo actor made.key log) (take_lease log c actor made.key t.counter t.owner)
    (take_begins log c actor made.key t.counter t.owner) made t.now refl e) t.taken

begun_turn : (actor : ℕ) (turn : Turn) (h : List Turn) (made : Tenancy) (b : Bool) → (turn.by == actor) ≡ b
    → (IsBegunIn (deals_of actor h) made → TenureIs actor made (tenure (journal h) made.tenure))
    → IsBegunIn (cond b (record { what = turn.what; answer = answer h turn } ∷ deals_of actor h) (deals_of actor h))
    made
    → TenureIs actor made (tenure (journal (turn ∷ h)) made.tenure)
begun_turn actor turn h made false e old is =
    kept_lines (lines_of (decide (journal h) (clock (turn ∷ h)) turn.by turn.what)) (journal h) actor made.tenure made
    (old is)
begun_turn actor turn h made true e old (inr is) =
    kept_lines (lines_of (decide (journal h) (clock (turn ∷ h)) turn.by turn.what)) (journal h) actor made.tenure made
    (old is)
begun_turn actor turn h made true e old (inl is) =
    subst (λ n. TenureIs n made (tenure (journal (turn ∷ h)) made.tenure)) (equal_so turn.by actor e)
    (begun_now turn.by (clock (turn ∷ h)) turn.what (journal h) made is)

tenure_is : (actor : ℕ) (h : List Turn) (made : Tenancy) → IsBegunIn (deals_of actor h) made
    → TenureIs actor made (tenure (journal h) made.tenure)
tenure_is actor [] made is = is
tenure_is actor (turn ∷ h) made is = begun_turn actor turn h made (turn.by == actor) refl (tenure_is actor h made) is

pub of_tenancy : (actor : ℕ) (h : List Turn) (made : Tenancy) → IsBegunIn (deals_of actor h) made
    → IsOfTenure actor h made
of_tenancy actor h made is = go (tenure (journal h) made.tenure) refl (tenure_is actor h made is)
  where
    go : (o : Option TenureState) → tenure (journal h) made.tenure ≡ o → TenureIs actor made o → IsOfTenure actor h made
    go None e t = absurd t
    go (Some T) e t = record { state = T; begun = e; own = t.0; key = t.1; start = t.2 }

-- ---- The consumers of a worker

-- One of the commands began the consumer's tenure.
abbrev pub IsBegun : List Deal → Known → Type 0
IsBegun deals k = IsBegunIn deals k.made

-- A command for a step of the take plan is a Take of the step's key.
abbrev pub IsTakeOf : Chore → Command → Type 0
IsTakeOf (Taking step takes) asked = (counter : ℕ) × (owner : ℕ) × (asked ≡ command.Take step.key counter owner)
IsTakeOf _ asked = Unit {0}

-- A command that waits for a step of the take plan is a Take of the step's key.
abbrev pub IsTakeWaiting : Option Pending → Type 0
IsTakeWaiting None = Unit {0}
IsTakeWaiting (Some p) = IsTakeOf p.chore p.what

-- The worker's commands began the tenures of all its consumers, and a waiting Take has its step's key.
pub record AreBegun (deals : List Deal) (w : WorkerState) : Type 0 where
  pub live : AllByRecursion (IsBegun deals) w.consumers
  pub over : AllByRecursion (IsBegun deals) w.retired
  pub waits : IsTakeWaiting w.waiting

one_more : (deal : Deal) (deals : List Deal) (xs : List Known) → AllByRecursion (IsBegun deals) xs
    → AllByRecursion (IsBegun (deal ∷ deals)) xs
one_more deal deals xs h = all_weaker (IsBegun deals) (IsBegun (deal ∷ deals)) (λ k b. inr b) xs h

settle_begun : (deals : List Deal) (w : WorkerState) → AllByRecursion (IsBegun deals) w.consumers
    → AllByRecursion (IsBegun deals) w.retired
    → IsTakeWaiting w.waiting → AreBegun deals (after_retiring w)
settle_begun deals w live over waits = record {
  live = all_filter (IsBegun deals) (λ k. not (is_over k)) w.consumers live;
  over = all_append (IsBegun deals) w.retired (filter is_over w.consumers) over
      (all_filter (IsBegun deals) is_over w.consumers live);
  waits = waits;
}

-- ---- The next command

consumer_waits : (id : _) (finishing : Bool) (o : Option Command)
    → IsTakeWaiting (pending_of (cond finishing (Finishing id) (Consuming id)) o)
consumer_waits id finishing None = tt
consumer_waits id true (Some asked) = tt
consumer_waits id false (Some asked) = tt

chore_waits : (made : WorkerMade) (w : WorkerState) (o : Option Chore) → IsTakeWaiting (pending_chore made w o)
chore_waits made w None = tt
chore_waits made w (Some Surveying) = tt
chore_waits made w (Some (Syncing step syncs takes)) = tt
chore_waits made w (Some (Taking step takes)) = (step.counter, made.name, refl)
chore_waits made w (Some (Renewing h)) = tt
chore_waits made w (Some (Consuming id)) = consumer_waits id false (consumer_command w (known_of id w.consumers))
chore_waits made w (Some (Finishing id)) = tt
chore_waits made w (Some (Freeing h)) = tt

-- ---- Answers

survey_begun : (made : WorkerMade) (now : ℕ) (answer : Result Reply Refusal) (deals : List Deal) (w : WorkerState)
    → w.waiting ≡ None
    → AllByRecursion (IsBegun deals) w.consumers → AllByRecursion (IsBegun deals) w.retired
    → AreBegun deals (after_retiring (after_survey made now answer w))
survey_begun made now (Ok (reply.Survey shards rows)) deals w none live over =
    settle_begun deals (after_survey made now (Ok (reply.Survey shards rows)) w)
    (all_event (IsBegun deals) (is_of (filter (λ h. not (still_stands rows h)) w.held)) Losing w.consumers (λ k b. b)
    live) over
    (subst IsTakeWaiting (sym none) tt)
survey_begun made now (Ok _) deals w none live over = settle_begun deals w live over (subst IsTakeWaiting (sym none) tt)
survey_begun made now (Err r) deals w none live over =
    settle_begun deals w live over (subst IsTakeWaiting (sym none) tt)

take_begun : (made : WorkerMade) (now : ℕ) (step : TakeStep) (request : Command) (answer : Result Reply Refusal)
    (deals : List Deal) (w : WorkerState)
    → w.waiting ≡ None → ((counter : ℕ) × (owner : ℕ) × (request ≡ command.Take step.key counter owner))
    → AllByRecursion (IsBegun deals) w.consumers
    → AllByRecursion (IsBegun deals) w.retired
    → AreBegun (record { what = request; answer = answer } ∷ deals) (after_retiring (after_take made now step answer w))
take_begun made now step request (Ok (reply.Taken tenure counter start)) deals w none is live over =
    let deal : Deal = record { what = request; answer = Ok (reply.Taken tenure counter start) } in
    let k : Known = record {
      made = record {
        key = step.key;
        tenure = tenure;
        start = start;
        limit = made.settings.limit;
      };
      past = [];
    } in
    settle_begun (deal ∷ deals) (after_take made now step (Ok (reply.Taken tenure counter start)) w)
    (all_with_known (IsBegun (deal ∷ deals)) k w.consumers
    (inl (record { counter = is.0; owner = is.1; now = counter; asked = is.2; taken = refl }))
    (one_more deal deals w.consumers live))
    (one_more deal deals w.retired over) (subst IsTakeWaiting (sym none) tt)
take_begun made now step request (Ok _) deals w none is live over =
    let deal : Deal = record { what = request; answer = _ } in
    settle_begun (deal ∷ deals) w (one_more deal deals w.consumers live) (one_more deal deals w.retired over)
    (subst IsTakeWaiting (sym none) tt)
take_begun made now step request (Err r) deals w none is live over =
    let deal : Deal = record { what = request; answer = Err r } in
    settle_begun (deal ∷ deals) w (one_more deal deals w.consumers live) (one_more deal deals w.retired over)
    (subst IsTakeWaiting (sym none) tt)

renewal_begun : (now : ℕ) (h : Held) (answer : Result Reply Refusal) (deals : List Deal) (w : WorkerState)
    → w.waiting ≡ None
    → AllByRecursion (IsBegun deals) w.consumers → AllByRecursion (IsBegun deals) w.retired
    → AreBegun deals (after_retiring (after_renewal now h answer w))
renewal_begun now h (Ok (reply.Counter counter)) deals w none live over =
    settle_begun deals (after_renewal now h (Ok (reply.Counter counter)) w) live over
    (subst IsTakeWaiting (sym none) tt)
renewal_begun now h (Ok _) deals w none live over = settle_begun deals w live over (subst IsTakeWaiting (sym none) tt)
renewal_begun now h (Err r) deals w none live over =
    settle_begun deals (after_renewal now h (Err r) w)
    (all_event (IsBegun deals) (λ k. same_id (id_of k) (id_of_held h)) Losing w.consumers (λ k b. b) live) over
    (subst IsTakeWaiting (sym none) tt)

consumed_begun : (id : _) (answer : Result Reply Refusal) (deals : List Deal) (xs : List Known)
    → AllByRecursion (IsBegun deals) xs
    → AllByRecursion (IsBegun deals) (consumed id answer xs)
consumed_begun id answer deals xs h =
    all_first (IsBegun deals) (λ k. same_id (id_of k) id) (Answered answer) xs (λ k b. b) h

chore_begun : (made : WorkerMade) (now : ℕ) (answer : Result Reply Refusal) (deals : List Deal) (chore : Chore)
    (asked : Command) (w : WorkerState)
    → w.waiting ≡ None → IsTakeOf chore asked → AllByRecursion (IsBegun deals) w.consumers
    → AllByRecursion (IsBegun deals) w.retired
    → AreBegun (record { what = asked; answer = answer } ∷ deals) (after_retiring (after_chore made now answer chore w))
chore_begun made now answer deals Surveying asked w none is live over =
    let deal : Deal = record { what = asked; answer = answer } in
    survey_begun made now answer (deal ∷ deals) w none (one_more deal deals w.consumers live)
    (one_more deal deals w.retired over)
chore_begun made now answer deals (Syncing step syncs takes) asked w none is live over =
    let deal : Deal = record { what = asked; answer = answer } in
    settle_begun (deal ∷ deals) (after_chore made now answer (Syncing step syncs takes) w)
    (one_more deal deals w.consumers live) (one_more deal deals w.retired over) (subst IsTakeWaiting (sym none) tt)
chore_begun made now answer deals (Taking step takes) asked w none is live over =
    take_begun made now step asked answer deals (record w { round = AtTakes takes }) none is live over
chore_begun made now answer deals (Renewing h) asked w none is live over =
    let deal : Deal = record { what = asked; answer = answer } in
    renewal_begun now h answer (deal ∷ deals) (record w { round = AtRenewals (Some (id_of_held h)) }) none
    (one_more deal deals w.consumers live) (one_more deal deals w.retired over)
chore_begun made now answer deals (Consuming id) asked w none is live over =
    let deal : Deal = record { what = asked; answer = answer } in
    settle_begun (deal ∷ deals) (after_chore made now answer (Consuming id) w)
    (consumed_begun id answer (deal ∷ deals) w.consumers (one_more deal deals w.consumers live))
    (one_more deal deals w.retired over)
    (subst IsTakeWaiting (sym none) tt)
chore_begun made now answer deals (Finishing id) asked w none is live over =
    let deal : Deal = record { what = asked; answer = answer } in
    settle_begun (deal ∷ deals) (after_chore made now answer (Finishing id) w)
    (consumed_begun id answer (deal ∷ deals) w.consumers (one_more deal deals w.consumers live))
    (one_more deal deals w.retired over)
    (subst IsTakeWaiting (sym none) tt)
chore_begun made now answer deals (Freeing h) asked w none is live over =
    let deal : Deal = record { what = asked; answer = answer } in
    settle_begun (deal ∷ deals) (after_chore made now answer (Freeing h) w)
    (one_more deal deals w.consumers live) (one_more deal deals w.retired over) (subst IsTakeWaiting (sym none) tt)

absorbed_begun : (made : WorkerMade) (now : ℕ) (answer : Result Reply Refusal) (deals : List Deal) (w : WorkerState)
    (o : Option Pending) → IsTakeWaiting o
    → AreBegun deals w → AreBegun (with_deal o answer deals) (absorbed made now answer w o)
absorbed_begun made now answer deals w None is b = b
absorbed_begun made now answer deals w (Some p) is b =
    chore_begun made now answer deals p.chore p.what (record w { waiting = None }) refl is b.live b.over

release_begun : (deals : List Deal) (o : Option Release) (w : WorkerState) → AreBegun deals w
    → AreBegun deals (without_release o w)
release_begun deals None w b = b
release_begun deals (Some r) w b =
    record { live = all_without (IsBegun deals) (id_of_held r.held) w.consumers b.live; over = b.over; waits = b.waits }

-- ---- The record

pub state_begun : (made : WorkerMade) (event : WorkerEvent) (w : WorkerState) (deals : List Deal) → AreBegun deals w
    → AreBegun (deals_with event w deals) (after_worker_event made event w)
state_begun made (Made_call asked) w deals b =
    settle_begun deals (record w { consumers = happens_to_first is_due_known (Called asked) w.consumers })
    (all_first (IsBegun deals) is_due_known (Called asked) w.consumers (λ k g. g) b.live) b.over b.waits
state_begun made (Gave_command now) w deals b =
    record { live = b.live; over = b.over; waits = chore_waits made w (chore_at made now w) }
state_begun made (Got_answer now answer) w deals b = absorbed_begun made now answer deals w w.waiting b.waits b
state_begun made Stopped w deals b =
    settle_begun deals (record w { round = AtStopping; consumers = happens_to (λ k. true) Losing w.consumers })
    (all_event (IsBegun deals) (λ k. true) Losing w.consumers (λ k g. g) b.live) b.over b.waits
state_begun made (Released key) w deals b = release_begun deals (released key w) w b

pub are_begun : (made : WorkerMade) (past : WorkerPast) → AreBegun (deals_after made past) (worker_after made past)
are_begun made [] = record { live = tt; over = tt; waits = tt }
are_begun made (event ∷ past) =
    state_begun made event (worker_after made past) (deals_after made past) (are_begun made past)

pub all_tenures : (actor : ℕ) (h : List Turn) (xs : List Known) → AllByRecursion (IsBegun (deals_of actor h)) xs
    → AllByRecursion (λ k. IsOfTenure actor h k.made) xs
all_tenures actor h xs b =
    all_weaker (IsBegun (deals_of actor h)) (λ k. IsOfTenure actor h k.made) (λ k g. of_tenancy actor h k.made g) xs b

pub begun_told : (actor : ℕ) (h : List Turn) (made : WorkerMade) (past : WorkerPast) → IsToldIn actor h made past
    → AreBegun (deals_of actor h) (worker_after made past)
begun_told actor h made past is_told =
    subst (λ deals. AreBegun deals (worker_after made past)) (sym is_told) (are_begun made past)

pub all_both : (P Q : Known → Type 0) (xs : List Known) → AllByRecursion P xs → AllByRecursion Q xs
    → AllByRecursion (λ k. P k × Q k) xs
all_both P Q [] h g = tt
all_both P Q (x ∷ xs) h g = ((h.0, g.0), all_both P Q xs h.1 g.1)
