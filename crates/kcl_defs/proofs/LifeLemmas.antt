-- A processor's calls fit the reads and gives in its consumer's trace, by induction over the trace.
use Rattle.std.proofs.Common.{◌≡◌, ℕ, ◌+◌, Bool, true, false, List, [], ◌∷◌, ◌++◌, length, take, drop, Option, Some}
use Rattle.std.proofs.Common.{None, Ok, Err, refl, sym, ap, subst, ◌∙◌, arith, inl, inr, append_assoc, length-append}
use Rattle.std.specs.Prelude.{cond, if◌then◌else◌, not, reverse, Result}
use Rattle.std.proofs.lemmas.List.{append-nil, reverse-append}
use Rattle.std.proofs.Math.Seq.{take-append_seam, drop-append_seam}
use Rattle.kds_defs.specs.declared.command.Target.{Target}
use Rattle.kcl_defs.specs.declared.consumer.Ask.{Ask}
use Rattle.kcl_defs.specs.declared.consumer.Ask.TheVariants as ask
use Rattle.kcl_defs.specs.declared.consumer.Call.{Call}
use Rattle.kcl_defs.specs.declared.consumer.Call.TheVariants as call
use Rattle.kcl_defs.specs.declared.consumer.Fetched.{Fetched}
use Rattle.kcl_defs.specs.declared.consumer.Tenancy.{Tenancy}
use Rattle.kcl_defs.specs.declared.consumer.Why.TheVariants as why
use Rattle.kds_defs.specs.declared.reply.Refusal.{Refusal}
use Rattle.kds_defs.specs.declared.reply.Refusal.TheVariants as refusal
use Rattle.kds_defs.specs.declared.reply.Reply.{Reply}
use Rattle.kds_defs.specs.declared.reply.Reply.TheVariants as reply
use Rattle.kcl_defs.specs.Consumers.{Past, Event, Called, Answered, Losing, Stage, Opening, Starting, Filling, Holding}
use Rattle.kcl_defs.specs.Consumers.{Giving, Marking, Ending, MarkingEnd, Leaving, Over, is_empty, stops_filling, front}
use Rattle.kcl_defs.specs.Consumers.{fetched, onward, given, first_has_records, first_batch, is_loss, after_event}
use Rattle.kcl_defs.specs.Consumers.{after_answer, after_read, after_give, after_mark, after_loss, stage_after}
use Rattle.kcl_defs.specs.Consumers.{calls_with, calls_after}
use Rattle.kcl_defs.specs.Lives.{reads_at, reads_after, gives_at, gives_after, read_in, give_in, processed, IsWaiting}
use Rattle.kcl_defs.specs.Lives.{IsEnding, Goes_on, Ended, Left, Ended_and_left, HasBegun, IsLife}

-- ---- Definitions for the proof

-- The endings after which LeaseLost may still follow.
pub data IsOpenEnding : List Call → Type 0 where
  Open : IsOpenEnding []
  Open_ended : IsOpenEnding (call.ShardEnded ∷ [])

-- Given reads come before waiting ones; calls are Initialize, Process for given batches, `handed` and `ending`.
pub record Stands (made : Tenancy) (waiting : List Fetched) (handed ending : List Call) (reads : List Fetched)
    (gives : ℕ) (calls : List Call) : Type 0 where
  pub done : List Fetched
  pub all : reads ≡ done ++ waiting
  pub count : length done ≡ gives
  pub in_order : reverse calls ≡ call.Initialize made.key made.start ∷ (processed done ++ (handed ++ ending))

-- Nothing was read, given or called yet.
pub record IsNew (reads : List Fetched) (gives : ℕ) (calls : List Call) : Type 0 where
  pub none_read : reads ≡ []
  pub none_given : gives ≡ 0
  pub none_called : calls ≡ []

-- The reads are given ones and some that wait, and no waiting batch was handed over.
pub record StandsSomehow (made : Tenancy) (ending : List Call) (reads : List Fetched) (gives : ℕ) (calls : List Call) :
    Type 0 where
  pub waiting : List Fetched
  pub stands : Stands made waiting [] ending reads gives calls

-- A consumer that leaves has handed over at most the first waiting batch, and LeaseLost may follow.
pub record StandsLeaving (made : Tenancy) (reads : List Fetched) (gives : ℕ) (calls : List Call) : Type 0 where
  pub waiting : List Fetched
  pub handed : List Call
  pub ending : List Call
  pub stands : Stands made waiting handed ending reads gives calls
  pub waits : IsWaiting handed waiting
  pub opens : IsOpenEnding ending

-- The Process call for the first batch; none if it is empty or there is no batch.
abbrev pub handed_of : List Fetched → List Call
handed_of [] = []
handed_of (f ∷ waiting) = processed (f ∷ [])

-- There is at least one read.
abbrev pub IsNotNone : List Fetched → Type 0
IsNotNone [] = ⊥
IsNotNone (f ∷ waiting) = Unit {0}

-- In `Giving`, a batch waits, and only the first one was handed over, unless it is empty.
pub record StandsGiving (made : Tenancy) (waiting : List Fetched) (reads : List Fetched) (gives : ℕ)
    (calls : List Call) : Type 0 where
  pub some : IsNotNone waiting
  pub stands : Stands made waiting (handed_of waiting) [] reads gives calls

-- In `Holding`, the first waiting batch isn't empty, and no waiting batch was handed over.
pub record StandsHolding (made : Tenancy) (waiting : List Fetched) (reads : List Fetched) (gives : ℕ)
    (calls : List Call) : Type 0 where
  pub some : first_has_records waiting ≡ true
  pub stands : Stands made waiting [] [] reads gives calls

-- The reads, gives and calls fit the consumer's stage.
abbrev pub Holds : Tenancy → Stage → List Fetched → ℕ → List Call → Type 0
Holds made Opening reads gives calls = IsNew reads gives calls
Holds made Starting reads gives calls = IsNew reads gives calls
Holds made (Filling reach waiting) reads gives calls = Stands made waiting [] [] reads gives calls
Holds made (Holding reach waiting) reads gives calls = StandsHolding made waiting reads gives calls
Holds made (Giving reach waiting asked lost) reads gives calls = StandsGiving made waiting reads gives calls
Holds made (Marking reach waiting target) reads gives calls = Stands made waiting [] [] reads gives calls
Holds made Ending reads gives calls = StandsSomehow made [] reads gives calls
Holds made MarkingEnd reads gives calls = StandsSomehow made (call.ShardEnded ∷ []) reads gives calls
Holds made (Leaving why) reads gives calls = StandsLeaving made reads gives calls
Holds made (Over why) reads gives calls = IsLife made reads gives calls

-- ---- Small steps

pub still : (P : List Fetched → ℕ → Type 0) (reads : List Fetched) (gives : ℕ) → P reads gives
    → P (reads ++ []) (gives + 0)
still P reads gives h =
    let e : gives ≡ gives + 0 = omega arith in
    let Q : List Fetched → Type 0 = λ rs. P rs (gives + 0) in
    let R : ℕ → Type 0 = λ n. P reads n in
    subst Q (sym (append-nil reads)) (subst R e h)

more_order : (c first : Call) (calls given handed ending : List Call)
    → reverse calls ≡ first ∷ (given ++ (handed ++ ending))
    → reverse (c ∷ calls) ≡ first ∷ (given ++ (handed ++ (ending ++ (c ∷ []))))
more_order c first calls given handed ending h =
    reverse-append (c ∷ []) calls
    ∙ ap (λ xs. xs ++ (c ∷ [])) h
    ∙ ap (λ xs. first ∷ xs) (append_assoc given (handed ++ ending) (c ∷ [])
    ∙ ap (λ xs. given ++ xs) (append_assoc handed ending (c ∷ [])))

pub with_end : (made : Tenancy) (c : Call) (waiting : List Fetched) (handed ending : List Call) (reads : List Fetched)
    (gives : ℕ) (calls : List Call) → Stands made waiting handed ending reads gives calls
    → Stands made waiting handed (ending ++ (c ∷ [])) reads gives (c ∷ calls)
with_end made c waiting handed ending reads gives calls h = record {
  done = h.done;
  all = h.all;
  count = h.count;
  in_order = more_order c (call.Initialize made.key made.start) calls (processed h.done) handed ending h.in_order;
}

form : (made : Tenancy) (waiting : List Fetched) (handed ending : List Call) (reads : List Fetched) (gives : ℕ)
    (calls : List Call) → Stands made waiting handed ending reads gives calls → IsWaiting handed waiting
    → IsEnding ending → HasBegun made reads gives calls
form made waiting handed ending reads gives calls h waits ends =
    let taken : take gives reads ≡ h.done =
    ap (λ n. take n reads) (sym h.count) ∙ ap (λ rs. take (length h.done) rs) h.all ∙ take-append_seam h.done waiting in
    let left : drop gives reads ≡ waiting =
    ap (λ n. drop n reads) (sym h.count) ∙ ap (λ rs. drop (length h.done) rs) h.all ∙ drop-append_seam h.done waiting in
    record {
      handed = handed;
      ending = ending;
      in_order = h.in_order
          ∙ ap (λ rs. call.Initialize made.key made.start ∷ (processed rs ++ (handed ++ ending))) (sym taken);
      waits = subst (λ ws. IsWaiting handed ws) (sym left) waits;
      ends = ends;
    }

pub whole : (made : Tenancy) (waiting : List Fetched) (ending : List Call) (reads : List Fetched) (gives : ℕ)
    (calls : List Call) → Stands made waiting [] ending reads gives calls → IsEnding ending
    → (begun : HasBegun made reads gives calls) × (begun.handed ≡ [])
unfolding form
whole made waiting ending reads gives calls h ends = (form made waiting [] ending reads gives calls h tt ends, refl)

pub left_ending : (ending : List Call) → IsOpenEnding ending → IsEnding (ending ++ (call.LeaseLost ∷ []))
left_ending [] h = Left
left_ending (c ∷ cs) Open_ended = Ended_and_left

open_ending : (ending : List Call) → IsOpenEnding ending → IsEnding ending
open_ending _ Open = Goes_on
open_ending _ Open_ended = Ended

-- ---- Calls

begins : (made : Tenancy) (asked : Ask) (reads : List Fetched) (gives : ℕ) (calls : List Call) → IsNew reads gives calls
    → Stands made [] [] [] reads gives (call.Initialize made.key made.start ∷ calls)
begins made asked reads gives calls h = record {
  done = [];
  all = h.none_read;
  count = sym h.none_given;
  in_order = ap (λ cs. reverse (call.Initialize made.key made.start ∷ cs)) h.none_called;
}

as_handed : (made : Tenancy) (c : Call) (waiting : List Fetched) (reads : List Fetched) (gives : ℕ) (calls : List Call)
    → Stands made waiting [] (c ∷ []) reads gives calls → Stands made waiting (c ∷ []) [] reads gives calls
as_handed made c waiting reads gives calls h =
    record { done = h.done; all = h.all; count = h.count; in_order = h.in_order }

hands : (made : Tenancy) (waiting : List Fetched) (reads : List Fetched) (gives : ℕ) (calls : List Call)
    → StandsHolding made waiting reads gives calls
    → StandsGiving made waiting reads gives (call.Process (first_batch waiting) ∷ calls)
hands made [] reads gives calls h = absurd cc
hands made (f ∷ waiting) reads gives calls h = hands_first (is_empty f.batch) refl h.some
  where
    hands_first : (b : Bool) → is_empty f.batch ≡ b → not (is_empty f.batch) ≡ true
        → StandsGiving made (f ∷ waiting) reads gives (call.Process f.batch ∷ calls)
    hands_first true is some = absurd (let e : not true ≡ true = ap not (sym is) ∙ some in cc)
    hands_first false is some =
        let g = as_handed made (call.Process f.batch) (f ∷ waiting) reads gives (call.Process f.batch ∷ calls)
        (with_end made (call.Process f.batch) (f ∷ waiting) [] [] reads gives calls h.stands) in
        let P : Bool → Type 0 =
        λ b. Stands made (f ∷ waiting) (cond b [] (call.Process f.batch ∷ [])) [] reads gives
        (call.Process f.batch ∷ calls) in
        record { some = tt; stands = subst P (sym is) g }

ends_shard : (made : Tenancy) (reads : List Fetched) (gives : ℕ) (calls : List Call)
    → StandsSomehow made [] reads gives calls
    → StandsSomehow made (call.ShardEnded ∷ []) reads gives (call.ShardEnded ∷ calls)
ends_shard made reads gives calls h = record {
  waiting = h.waiting;
  stands = with_end made call.ShardEnded h.waiting [] [] reads gives calls h.stands;
}

leaves : (made : Tenancy) (reads : List Fetched) (gives : ℕ) (calls : List Call) → StandsLeaving made reads gives calls
    → IsLife made reads gives (call.LeaseLost ∷ calls)
leaves made reads gives calls h =
    inr (form made h.waiting h.handed (h.ending ++ (call.LeaseLost ∷ [])) reads gives (call.LeaseLost ∷ calls)
    (with_end made call.LeaseLost h.waiting h.handed h.ending reads gives calls h.stands) h.waits
    (left_ending h.ending h.opens))

called : (made : Tenancy) (asked : Ask) (stage : Stage) (reads : List Fetched) (gives : ℕ) (calls : List Call)
    → Holds made stage reads gives calls
    → Holds made (after_event made (Called asked) stage) reads gives (calls_with made (Called asked) stage calls)
called made asked Starting reads gives calls h = begins made asked reads gives calls h
called made asked (Holding reach waiting) reads gives calls h = hands made waiting reads gives calls h
called made asked Ending reads gives calls h = ends_shard made reads gives calls h
called made asked (Leaving why) reads gives calls h = leaves made reads gives calls h
called made asked Opening reads gives calls h = h
called made asked (Filling reach waiting) reads gives calls h = h
called made asked (Giving reach waiting target lost) reads gives calls h = h
called made asked (Marking reach waiting target) reads gives calls h = h
called made asked MarkingEnd reads gives calls h = h
called made asked (Over why) reads gives calls h = h

-- ---- Losses

leaving : (made : Tenancy) (waiting : List Fetched) (handed ending : List Call) (reads : List Fetched) (gives : ℕ)
    (calls : List Call) → Stands made waiting handed ending reads gives calls → IsWaiting handed waiting
    → IsOpenEnding ending → StandsLeaving made reads gives calls
leaving made waiting handed ending reads gives calls h waits opens =
    record { waiting = waiting; handed = handed; ending = ending; stands = h; waits = waits; opens = opens }

waits_first : (f : Fetched) (waiting : List Fetched) (b : Bool) → is_empty f.batch ≡ b
    → IsWaiting (cond b [] (call.Process f.batch ∷ [])) (f ∷ waiting)
waits_first f waiting true is = tt
waits_first f waiting false is = (refl, is)

waits_handed : (waiting : List Fetched) → IsWaiting (handed_of waiting) waiting
waits_handed [] = tt
waits_handed (f ∷ waiting) = waits_first f waiting (is_empty f.batch) refl

leaving_given : (made : Tenancy) (waiting : List Fetched) (reads : List Fetched) (gives : ℕ) (calls : List Call)
    → StandsGiving made waiting reads gives calls → StandsLeaving made reads gives calls
leaving_given made waiting reads gives calls h =
    leaving made waiting (handed_of waiting) [] reads gives calls h.stands (waits_handed waiting) Open

none_yet : (made : Tenancy) (reads : List Fetched) (gives : ℕ) (calls : List Call) → IsNew reads gives calls
    → IsLife made reads gives calls
none_yet made reads gives calls h = inl h.none_called

lost_giving : (made : Tenancy) (reach : ℕ) (waiting : List Fetched) (target : Option Target) (reads : List Fetched)
    (gives : ℕ) (calls : List Call) (b : Bool) → StandsGiving made waiting reads gives calls
    → Holds made (if b then Giving reach waiting target true else Leaving why.Lost) reads gives calls
lost_giving made reach waiting target reads gives calls true h = h
lost_giving made reach waiting target reads gives calls false h = leaving_given made waiting reads gives calls h

lost : (made : Tenancy) (stage : Stage) (reads : List Fetched) (gives : ℕ) (calls : List Call)
    → Holds made stage reads gives calls → Holds made (after_loss stage) reads gives calls
lost made Opening reads gives calls h = none_yet made reads gives calls h
lost made Starting reads gives calls h = none_yet made reads gives calls h
lost made (Giving reach waiting target known) reads gives calls h =
    lost_giving made reach waiting target reads gives calls (first_has_records waiting) h
lost made (Over why) reads gives calls h = h
lost made (Filling reach waiting) reads gives calls h = leaving made waiting [] [] reads gives calls h tt Open
lost made (Holding reach waiting) reads gives calls h = leaving made waiting [] [] reads gives calls h.stands tt Open
lost made (Marking reach waiting target) reads gives calls h = leaving made waiting [] [] reads gives calls h tt Open
lost made Ending reads gives calls h = leaving made h.waiting [] [] reads gives calls h.stands tt Open
lost made MarkingEnd reads gives calls h =
    leaving made h.waiting [] (call.ShardEnded ∷ []) reads gives calls h.stands tt Open_ended
lost made (Leaving why) reads gives calls h = h

-- ---- Answers

fronts_first : (made : Tenancy) (reach : ℕ) (f : Fetched) (waiting : List Fetched) (reads : List Fetched) (gives : ℕ)
    (calls : List Call) (b : Bool) → is_empty f.batch ≡ b → Stands made (f ∷ waiting) [] [] reads gives calls
    → Holds made (if b then Giving reach (f ∷ waiting) None false else Holding reach (f ∷ waiting)) reads gives calls
fronts_first made reach f waiting reads gives calls true is h =
    let P : Bool → Type 0 =
    λ b. Stands made (f ∷ waiting) (cond b [] (call.Process f.batch ∷ [])) [] reads gives calls in
    record { some = tt; stands = subst P (sym is) h }
fronts_first made reach f waiting reads gives calls false is h = record { some = ap not is; stands = h }

fronts : (made : Tenancy) (reach : ℕ) (waiting : List Fetched) (reads : List Fetched) (gives : ℕ) (calls : List Call)
    → Stands made waiting [] [] reads gives calls → Holds made (front reach waiting) reads gives calls
fronts made reach [] reads gives calls h = h
fronts made reach (f ∷ waiting) reads gives calls h =
    fronts_first made reach f waiting reads gives calls (is_empty f.batch) refl h

more_waiting : (made : Tenancy) (waiting : List Fetched) (f : Fetched) (reads : List Fetched) (gives : ℕ)
    (calls : List Call) → Stands made waiting [] [] reads gives calls
    → Stands made (waiting ++ (f ∷ [])) [] [] (reads ++ (f ∷ [])) gives calls
more_waiting made waiting f reads gives calls h = record {
  done = h.done;
  all = ap (λ rs. rs ++ (f ∷ [])) h.all ∙ append_assoc h.done waiting (f ∷ []);
  count = h.count;
  in_order = h.in_order;
}

fetches_if : (made : Tenancy) (reach : ℕ) (waiting : List Fetched) (reads : List Fetched) (gives : ℕ)
    (calls : List Call) (b : Bool) → Stands made waiting [] [] reads gives calls
    → Holds made (if b then front reach waiting else Filling reach waiting) reads gives calls
fetches_if made reach waiting reads gives calls true h = fronts made reach waiting reads gives calls h
fetches_if made reach waiting reads gives calls false h = h

fetches : (made : Tenancy) (reach : ℕ) (waiting : List Fetched) (f : Fetched) (reads : List Fetched) (gives : ℕ)
    (calls : List Call) → Stands made waiting [] [] reads gives calls
    → Holds made (fetched made.limit reach waiting f) (reads ++ (f ∷ [])) (gives + 0) calls
fetches made reach waiting f reads gives calls h =
    let e : gives ≡ gives + 0 = omega arith in
    let R : ℕ → Type 0 = λ n. Stands made (waiting ++ (f ∷ [])) [] [] (reads ++ (f ∷ [])) n calls in
    fetches_if made reach (waiting ++ (f ∷ [])) (reads ++ (f ∷ [])) (gives + 0) calls
    (stops_filling made.limit (length waiting + 1) f)
    (subst R e (more_waiting made waiting f reads gives calls h))

no_room : (made : Tenancy) (waiting : List Fetched) (reads : List Fetched) (gives : ℕ) (calls : List Call)
    → Stands made waiting [] [] reads gives calls → StandsLeaving made (reads ++ []) (gives + 0) calls
no_room made waiting reads gives calls h =
    still (λ rs n. StandsLeaving made rs n calls) reads gives (leaving made waiting [] [] reads gives calls h tt Open)

stays : (made : Tenancy) (waiting : List Fetched) (reads : List Fetched) (gives : ℕ) (calls : List Call)
    → Stands made waiting [] [] reads gives calls → Stands made waiting [] [] (reads ++ []) (gives + 0) calls
stays made waiting reads gives calls h = still (λ rs n. Stands made waiting [] [] rs n calls) reads gives h

read_answered : (made : Tenancy) (reach : ℕ) (waiting : List Fetched) (answer : Result Reply Refusal)
    (reads : List Fetched) (gives : ℕ) (calls : List Call) → Stands made waiting [] [] reads gives calls
    → Holds made (after_read made.limit reach waiting answer) (reads ++ read_in answer) (gives + 0) calls
read_answered made reach waiting (Ok (reply.Read batch position ended)) reads gives calls h =
    fetches made position waiting (record { batch = batch; ended = ended }) reads gives calls h
read_answered made reach waiting (Ok _) reads gives calls h = stays made waiting reads gives calls h
read_answered made reach waiting (Err refusal.ShardGone) reads gives calls h = no_room made waiting reads gives calls h
read_answered made reach waiting (Err _) reads gives calls h = no_room made waiting reads gives calls h

pub given_on : (made : Tenancy) (f : Fetched) (waiting : List Fetched) (reads : List Fetched) (gives : ℕ)
    (calls : List Call) → Stands made (f ∷ waiting) (processed (f ∷ [])) [] reads gives calls
    → Stands made waiting [] [] (reads ++ []) (gives + 1) calls
given_on made f waiting reads gives calls h =
    let count : length (h.done ++ (f ∷ [])) ≡ gives + 1 = length-append h.done (f ∷ []) ∙ ap (λ n. n + 1) h.count in
    record {
      done = h.done ++ (f ∷ []);
      all = append-nil reads ∙ h.all ∙ sym (append_assoc h.done (f ∷ []) waiting);
      count = count;
      in_order = h.in_order ∙ ap (λ cs. call.Initialize made.key made.start ∷ cs) (processed_on h.done f);
    }
  where
    processed_on_if : (x f : Fetched) (done : List Fetched) (b : Bool)
        → processed done ++ (processed (f ∷ []) ++ []) ≡ processed (done ++ (f ∷ [])) ++ []
        → (if b then processed done else call.Process x.batch ∷ processed done) ++ (processed (f ∷ []) ++ [])
        ≡ (if b then processed (done ++ (f ∷ [])) else call.Process x.batch ∷ processed (done ++ (f ∷ []))) ++ []
    processed_on_if x f done true rest = rest
    processed_on_if x f done false rest = ap (λ cs. call.Process x.batch ∷ cs) rest

    processed_on : (done : List Fetched) (f : Fetched)
        → processed done ++ (processed (f ∷ []) ++ []) ≡ processed (done ++ (f ∷ [])) ++ []
    processed_on [] f = refl
    processed_on (x ∷ done) f = processed_on_if x f done (is_empty x.batch) (processed_on done f)

goes_onward : (made : Tenancy) (reach : ℕ) (waiting : List Fetched) (target : Option Target) (reads : List Fetched)
    (gives : ℕ) (calls : List Call) → Stands made waiting [] [] reads gives calls
    → Holds made (onward reach waiting target) reads gives calls
goes_onward made reach waiting None reads gives calls h = fronts made reach waiting reads gives calls h
goes_onward made reach waiting (Some target) reads gives calls h = h

ends_if : (made : Tenancy) (reach : ℕ) (waiting : List Fetched) (target : Option Target) (reads : List Fetched)
    (gives : ℕ)
    (calls : List Call) (b : Bool) → Stands made waiting [] [] reads gives calls
    → Holds made (if b then Ending else onward reach waiting target) reads gives calls
ends_if made reach waiting target reads gives calls true h = record { waiting = waiting; stands = h }
ends_if made reach waiting target reads gives calls false h = goes_onward made reach waiting target reads gives calls h

given_answered : (made : Tenancy) (reach : ℕ) (waiting : List Fetched) (target : Option Target) (known : Bool)
    (answer : Result Reply Refusal) (reads : List Fetched) (gives : ℕ) (calls : List Call)
    → StandsGiving made waiting reads gives calls
    → Holds made (after_give reach waiting target known answer) (reads ++ []) (gives + give_in answer) calls
given_answered made reach [] target known answer reads gives calls h = absurd h.some
given_answered made reach (f ∷ waiting) target true (Ok reply) reads gives calls h =
    leaving made waiting [] [] (reads ++ []) (gives + 1) calls (given_on made f waiting reads gives calls h.stands)
    tt Open
given_answered made reach (f ∷ waiting) target false (Ok reply) reads gives calls h =
    ends_if made reach waiting target (reads ++ []) (gives + 1) calls f.ended
    (given_on made f waiting reads gives calls h.stands)
given_answered made reach (f ∷ waiting) target known (Err r) reads gives calls h =
    still (λ rs n. StandsLeaving made rs n calls) reads gives (leaving_given made (f ∷ waiting) reads gives calls h)

mark_refused : (made : Tenancy) (reach : ℕ) (waiting : List Fetched) (reads : List Fetched) (gives : ℕ)
    (calls : List Call) (b : Bool) → Stands made waiting [] [] reads gives calls
    → Holds made (if b then Leaving why.Lost else front reach waiting) reads gives calls
mark_refused made reach waiting reads gives calls true h = leaving made waiting [] [] reads gives calls h tt Open
mark_refused made reach waiting reads gives calls false h = fronts made reach waiting reads gives calls h

mark_answered : (made : Tenancy) (reach : ℕ) (waiting : List Fetched) (answer : Result Reply Refusal)
    (reads : List Fetched) (gives : ℕ) (calls : List Call) → Stands made waiting [] [] reads gives calls
    → Holds made (after_mark reach waiting answer) reads gives calls
mark_answered made reach waiting (Ok reply) reads gives calls h = fronts made reach waiting reads gives calls h
mark_answered made reach waiting (Err r) reads gives calls h =
    mark_refused made reach waiting reads gives calls (is_loss r) h

end_answered : (made : Tenancy) (answer : Result Reply Refusal) (reads : List Fetched) (gives : ℕ) (calls : List Call)
    → StandsSomehow made (call.ShardEnded ∷ []) reads gives calls
    → Holds made (after_answer made answer MarkingEnd) reads gives calls
end_answered made (Ok reply) reads gives calls h =
    inr (form made h.waiting [] (call.ShardEnded ∷ []) reads gives calls h.stands tt Ended)
end_answered made (Err r) reads gives calls h =
    leaving made h.waiting [] (call.ShardEnded ∷ []) reads gives calls h.stands tt Open_ended

open_answered : (made : Tenancy) (answer : Result Reply Refusal) (reads : List Fetched) (gives : ℕ) (calls : List Call)
    → IsNew reads gives calls → Holds made (after_answer made answer Opening) reads gives calls
open_answered made (Ok reply) reads gives calls h = h
open_answered made (Err (refusal.ParentsOpen parent)) reads gives calls h = h
open_answered made (Err _) reads gives calls h = none_yet made reads gives calls h

answered : (made : Tenancy) (answer : Result Reply Refusal) (stage : Stage) (reads : List Fetched) (gives : ℕ)
    (calls : List Call) → Holds made stage reads gives calls
    → Holds made (after_answer made answer stage) (reads ++ reads_at stage (Answered answer))
    (gives + gives_at stage (Answered answer)) calls
answered made answer (Filling reach waiting) reads gives calls h =
    read_answered made reach waiting answer reads gives calls h
answered made answer (Giving reach waiting target known) reads gives calls h =
    given_answered made reach waiting target known answer reads gives calls h
answered made answer Opening reads gives calls h =
    still (λ rs n. Holds made (after_answer made answer Opening) rs n calls) reads gives
    (open_answered made answer reads gives calls h)
answered made answer (Marking reach waiting target) reads gives calls h =
    still (λ rs n. Holds made (after_mark reach waiting answer) rs n calls) reads gives
    (mark_answered made reach waiting answer reads gives calls h)
answered made answer MarkingEnd reads gives calls h =
    still (λ rs n. Holds made (after_answer made answer MarkingEnd) rs n calls) reads gives
    (end_answered made answer reads gives calls h)
answered made answer Starting reads gives calls h = still (λ rs n. Holds made Starting rs n calls) reads gives h
answered made answer (Holding reach waiting) reads gives calls h =
    still (λ rs n. Holds made (Holding reach waiting) rs n calls) reads gives h
answered made answer Ending reads gives calls h = still (λ rs n. Holds made Ending rs n calls) reads gives h
answered made answer (Leaving why) reads gives calls h =
    still (λ rs n. Holds made (Leaving why) rs n calls) reads gives h
answered made answer (Over why) reads gives calls h = still (λ rs n. Holds made (Over why) rs n calls) reads gives h

-- ---- The record

-- The reads, gives and calls in a trace fit the stage after it.
abbrev HoldsAfter : Tenancy → Past → Type 0
HoldsAfter made past =
    Holds made (stage_after made past) (reads_after made past) (gives_after made past) (calls_after made past)

quiet : (made : Tenancy) (event : Event) (stage old : Stage) (reads : List Fetched) (gives : ℕ) (calls : List Call)
    → reads_at old event ≡ [] → gives_at old event ≡ 0 → Holds made stage reads gives calls
    → Holds made stage (reads ++ reads_at old event) (gives + gives_at old event) calls
quiet made event stage old reads gives calls r g h =
    let P : List Fetched → Type 0 = λ rs. Holds made stage (reads ++ rs) (gives + gives_at old event) calls in
    let Q : ℕ → Type 0 = λ n. Holds made stage (reads ++ []) (gives + n) calls in
    subst P (sym r) (subst Q (sym g) (still (λ rs n. Holds made stage rs n calls) reads gives h))

pub no_reads : (stage : Stage) (asked : Ask) → (reads_at stage (Called asked) ≡ []) × (reads_at stage Losing ≡ [])
    × (gives_at stage (Called asked) ≡ 0) × (gives_at stage Losing ≡ 0)
no_reads (Filling reach waiting) asked = (refl, refl, refl, refl)
no_reads (Giving reach waiting target known) asked = (refl, refl, refl, refl)
no_reads _ asked = (refl, refl, refl, refl)

happens : (made : Tenancy) (event : Event) (past : Past) → HoldsAfter made past → HoldsAfter made (event ∷ past)
happens made (Called asked) past h =
    let n = no_reads (stage_after made past) asked in
    quiet made (Called asked) (after_event made (Called asked) (stage_after made past)) (stage_after made past)
    (reads_after made past) (gives_after made past) (calls_after made (Called asked ∷ past)) n.0 n.2
    (called made asked (stage_after made past) (reads_after made past) (gives_after made past) (calls_after made past)
    h)
happens made (Answered answer) past h =
    answered made answer (stage_after made past) (reads_after made past) (gives_after made past) (calls_after made past)
    h
happens made Losing past h =
    let n = no_reads (stage_after made past) asked in
    quiet made Losing (after_loss (stage_after made past)) (stage_after made past) (reads_after made past)
    (gives_after made past) (calls_after made past) n.1 n.3
    (lost made (stage_after made past) (reads_after made past) (gives_after made past) (calls_after made past) h)
  where
    asked : Ask
    asked = ask.None

pub holds : (made : Tenancy) (past : Past) → HoldsAfter made past
holds made [] = record { none_read = refl; none_given = refl; none_called = refl }
holds made (event ∷ past) = happens made event past (holds made past)

formed : (made : Tenancy) (stage : Stage) (reads : List Fetched) (gives : ℕ) (calls : List Call)
    → Holds made stage reads gives calls → IsLife made reads gives calls
formed made Opening reads gives calls h = none_yet made reads gives calls h
formed made Starting reads gives calls h = none_yet made reads gives calls h
formed made (Filling reach waiting) reads gives calls h = inr (form made waiting [] [] reads gives calls h tt Goes_on)
formed made (Holding reach waiting) reads gives calls h =
    inr (form made waiting [] [] reads gives calls h.stands tt Goes_on)
formed made (Giving reach waiting target known) reads gives calls h =
    inr (form made waiting (handed_of waiting) [] reads gives calls h.stands (waits_handed waiting) Goes_on)
formed made (Marking reach waiting target) reads gives calls h =
    inr (form made waiting [] [] reads gives calls h tt Goes_on)
formed made Ending reads gives calls h = inr (form made h.waiting [] [] reads gives calls h.stands tt Goes_on)
formed made MarkingEnd reads gives calls h =
    inr (form made h.waiting [] (call.ShardEnded ∷ []) reads gives calls h.stands tt Ended)
formed made (Leaving why) reads gives calls h =
    inr (form made h.waiting h.handed h.ending reads gives calls h.stands h.waits (open_ending h.ending h.opens))
formed made (Over why) reads gives calls h = h

pub life : (made : Tenancy) (past : Past)
    → IsLife made (reads_after made past) (gives_after made past) (calls_after made past)
life made past = formed made (stage_after made past) (reads_after made past) (gives_after made past)
    (calls_after made past) (holds made past)
