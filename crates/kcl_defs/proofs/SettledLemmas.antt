-- If no Give of a consumer was refused and it is over, each batch that its processor was handed is given.
use Rattle.std.proofs.Common.{◌≡◌, ℕ, ◌+◌, Bool, true, false, List, [], ◌∷◌, ◌++◌, length, Option, Some, None, Ok, Err}
use Rattle.std.proofs.Common.{refl, sym, subst, inl, inr}
use Rattle.std.specs.Prelude.{◌⊎◌, cond, if◌then◌else◌, ◌||◌, not, Result}
use Rattle.std.proofs.lemmas.Bool.{or_parts}
use Rattle.kds_defs.specs.declared.command.Target.{Target}
use Rattle.kcl_defs.specs.declared.consumer.Ask.{Ask}
use Rattle.kcl_defs.specs.declared.consumer.Ask.TheVariants as ask
use Rattle.kcl_defs.specs.declared.consumer.Call.{Call}
use Rattle.kcl_defs.specs.declared.consumer.Call.TheVariants as call
use Rattle.kcl_defs.specs.declared.consumer.Fetched.{Fetched}
use Rattle.kcl_defs.specs.declared.consumer.Tenancy.{Tenancy}
use Rattle.kcl_defs.specs.declared.consumer.Why.TheVariants as why
use Rattle.kds_defs.specs.declared.reply.Refusal.{Refusal}
use Rattle.kds_defs.specs.declared.reply.Refusal.TheVariants as refusal
use Rattle.kds_defs.specs.declared.reply.Reply.{Reply}
use Rattle.kds_defs.specs.declared.reply.Reply.TheVariants as reply
use Rattle.kcl_defs.specs.Consumers.{Past, Event, Called, Answered, Losing, Stage, Opening, Starting, Filling, Holding}
use Rattle.kcl_defs.specs.Consumers.{Giving, Marking, Ending, MarkingEnd, Leaving, Over, is_empty, stops_filling, front}
use Rattle.kcl_defs.specs.Consumers.{onward, first_has_records, is_loss, after_event, after_answer, after_read}
use Rattle.kcl_defs.specs.Consumers.{after_give}
use Rattle.kcl_defs.specs.Consumers.{after_mark, after_loss, stage_after, calls_with, calls_after}
use Rattle.kcl_defs.specs.Lives.{reads_at, reads_after, gives_at, gives_after, read_in, give_in, IsEnding, Ended}
use Rattle.kcl_defs.proofs.LifeLemmas.{Holds, Stands, StandsGiving, StandsSomehow, IsOpenEnding, Open, Open_ended}
use Rattle.kcl_defs.proofs.LifeLemmas.{with_end, left_ending, given_on, holds, still, no_reads}

-- Whether the event refuses a Give.
abbrev pub refused_at : Stage → Event → Bool
refused_at (Giving reach waiting asked lost) (Answered (Err r)) = true
refused_at _ event = false

-- Whether a Give in the trace was refused.
abbrev pub was_refused : Tenancy → Past → Bool
was_refused made [] = false
was_refused made (event ∷ past) = refused_at (stage_after made past) event || was_refused made past

-- No waiting batch was handed over, and the calls have an allowed ending.
pub record IsSettled (made : Tenancy) (reads : List Fetched) (gives : ℕ) (calls : List Call) : Type 0 where
  pub waiting : List Fetched
  pub ending : List Call
  pub stands : Stands made waiting [] ending reads gives calls
  pub ends : IsEnding ending

-- No waiting batch was handed over, and LeaseLost may still follow.
pub record IsLeavingSettled (made : Tenancy) (reads : List Fetched) (gives : ℕ) (calls : List Call) : Type 0 where
  pub waiting : List Fetched
  pub ending : List Call
  pub stands : Stands made waiting [] ending reads gives calls
  pub opens : IsOpenEnding ending

-- In `Leaving` or `Over`, each batch that was handed over is given.
abbrev pub Settles : Tenancy → Stage → List Fetched → ℕ → List Call → Type 0
Settles made (Leaving why) reads gives calls = IsLeavingSettled made reads gives calls
Settles made (Over why) reads gives calls = (calls ≡ []) ⊎ IsSettled made reads gives calls
Settles made _ reads gives calls = Unit {0}

leave : (made : Tenancy) (waiting : List Fetched) (ending : List Call) (reads : List Fetched) (gives : ℕ)
    (calls : List Call) → Stands made waiting [] ending reads gives calls → IsOpenEnding ending
    → IsLeavingSettled made reads gives calls
leave made waiting ending reads gives calls h o = record { waiting = waiting; ending = ending; stands = h; opens = o }

fronts : (made : Tenancy) (reach : ℕ) (waiting : List Fetched) (reads : List Fetched) (gives : ℕ) (calls : List Call)
    → Settles made (front reach waiting) reads gives calls
fronts made reach [] reads gives calls = tt
fronts made reach (f ∷ waiting) reads gives calls = choice (is_empty f.batch)
  where
    choice : (b : Bool) → Settles made
        (if b then Giving reach (f ∷ waiting) None false else Holding reach (f ∷ waiting)) reads gives calls
    choice true = tt
    choice false = tt

called : (made : Tenancy) (asked : Ask) (stage : Stage) (reads : List Fetched) (gives : ℕ) (calls : List Call)
    → Settles made stage reads gives calls
    → Settles made (after_event made (Called asked) stage) reads gives (calls_with made (Called asked) stage calls)
called made asked (Leaving why) reads gives calls s = inr (record {
  waiting = s.waiting;
  ending = s.ending ++ (call.LeaseLost ∷ []);
  stands = with_end made call.LeaseLost s.waiting [] s.ending reads gives calls s.stands;
  ends = left_ending s.ending s.opens;
})
called made asked (Over why) reads gives calls s = s
called made asked Opening reads gives calls s = tt
called made asked Starting reads gives calls s = tt
called made asked (Filling reach waiting) reads gives calls s = tt
called made asked (Holding reach waiting) reads gives calls s = tt
called made asked (Giving reach waiting target known) reads gives calls s = tt
called made asked (Marking reach waiting target) reads gives calls s = tt
called made asked Ending reads gives calls s = tt
called made asked MarkingEnd reads gives calls s = tt

not_handed : (made : Tenancy) (reach : ℕ) (waiting : List Fetched) (target : Option Target) (reads : List Fetched)
    (gives : ℕ) (calls : List Call) → StandsGiving made waiting reads gives calls
    → Settles made (if first_has_records waiting then Giving reach waiting target true else Leaving why.Lost)
    reads gives calls
not_handed made reach [] target reads gives calls h = absurd h.some
not_handed made reach (f ∷ waiting) target reads gives calls h = choice (is_empty f.batch) refl
  where
    choice : (b : Bool) → is_empty f.batch ≡ b
        → Settles made (if not b then Giving reach (f ∷ waiting) target true else Leaving why.Lost) reads gives calls
    choice false e = tt
    choice true e =
        leave made (f ∷ waiting) [] reads gives calls
        (subst (λ b. Stands made (f ∷ waiting) (cond b [] (call.Process f.batch ∷ [])) [] reads gives calls) e h.stands)
        Open

lost : (made : Tenancy) (stage : Stage) (reads : List Fetched) (gives : ℕ) (calls : List Call)
    → Holds made stage reads gives calls → Settles made stage reads gives calls
    → Settles made (after_loss stage) reads gives calls
lost made Opening reads gives calls h s = inl h.none_called
lost made Starting reads gives calls h s = inl h.none_called
lost made (Giving reach waiting target known) reads gives calls h s =
    not_handed made reach waiting target reads gives calls h
lost made (Over why) reads gives calls h s = s
lost made (Filling reach waiting) reads gives calls h s = leave made waiting [] reads gives calls h Open
lost made (Holding reach waiting) reads gives calls h s = leave made waiting [] reads gives calls h.stands Open
lost made (Marking reach waiting target) reads gives calls h s = leave made waiting [] reads gives calls h Open
lost made Ending reads gives calls h s = leave made h.waiting [] reads gives calls h.stands Open
lost made MarkingEnd reads gives calls h s =
    leave made h.waiting (call.ShardEnded ∷ []) reads gives calls h.stands Open_ended
lost made (Leaving why) reads gives calls h s = s

read_answered : (made : Tenancy) (reach : ℕ) (waiting : List Fetched) (answer : Result Reply Refusal)
    (reads : List Fetched) (gives : ℕ) (calls : List Call) → Stands made waiting [] [] reads gives calls
    → Settles made (after_read made.limit reach waiting answer) (reads ++ read_in answer) (gives + 0) calls
read_answered made reach waiting (Ok (reply.Read batch position ended)) reads gives calls h =
    choice (stops_filling made.limit (length waiting + 1) (record { batch = batch; ended = ended }))
  where
    choice : (b : Bool) → Settles made
        (if b then front position (waiting ++ (record { batch = batch; ended = ended } ∷ [])) else Filling position
        (waiting ++ (record { batch = batch; ended = ended } ∷ [])))
        (reads ++ (record { batch = batch; ended = ended } ∷ [])) (gives + 0) calls
    choice true = fronts made position (waiting ++ (record { batch = batch; ended = ended } ∷ []))
        (reads ++ (record { batch = batch; ended = ended } ∷ [])) (gives + 0) calls
    choice false = tt
read_answered made reach waiting (Ok _) reads gives calls h = tt
read_answered made reach waiting (Err refusal.ShardGone) reads gives calls h =
    still (λ rs n. IsLeavingSettled made rs n calls) reads gives (leave made waiting [] reads gives calls h Open)
read_answered made reach waiting (Err _) reads gives calls h =
    still (λ rs n. IsLeavingSettled made rs n calls) reads gives (leave made waiting [] reads gives calls h Open)

onwards : (made : Tenancy) (reach : ℕ) (waiting : List Fetched) (target : Option Target) (reads : List Fetched)
    (gives : ℕ)
    (calls : List Call) → Settles made (onward reach waiting target) reads gives calls
onwards made reach waiting None reads gives calls = fronts made reach waiting reads gives calls
onwards made reach waiting (Some target) reads gives calls = tt

give_answered : (made : Tenancy) (reach : ℕ) (waiting : List Fetched) (target : Option Target) (known : Bool)
    (answer : Result Reply Refusal) (reads : List Fetched) (gives : ℕ) (calls : List Call)
    → refused_at (Giving reach waiting target known) (Answered answer) ≡ false
    → StandsGiving made waiting reads gives calls
    → Settles made (after_give reach waiting target known answer) (reads ++ []) (gives + give_in answer) calls
give_answered made reach [] target known answer reads gives calls r h = absurd h.some
give_answered made reach (f ∷ waiting) target true (Ok reply) reads gives calls r h =
    leave made waiting [] (reads ++ []) (gives + 1) calls (given_on made f waiting reads gives calls h.stands) Open
give_answered made reach (f ∷ waiting) target false (Ok reply) reads gives calls r h = choice f.ended
  where
    choice : (b : Bool) → Settles made (if b then Ending else onward reach waiting target) (reads ++ []) (gives + 1)
        calls
    choice true = tt
    choice false = onwards made reach waiting target (reads ++ []) (gives + 1) calls
give_answered made reach (f ∷ waiting) target known (Err e) reads gives calls r h = absurd cc

mark_answered : (made : Tenancy) (reach : ℕ) (waiting : List Fetched) (answer : Result Reply Refusal)
    (reads : List Fetched) (gives : ℕ) (calls : List Call) → Stands made waiting [] [] reads gives calls
    → Settles made (after_mark reach waiting answer) reads gives calls
mark_answered made reach waiting (Ok reply) reads gives calls h = fronts made reach waiting reads gives calls
mark_answered made reach waiting (Err r) reads gives calls h = choice (is_loss r)
  where
    choice : (b : Bool) → Settles made (if b then Leaving why.Lost else front reach waiting) reads gives calls
    choice true = leave made waiting [] reads gives calls h Open
    choice false = fronts made reach waiting reads gives calls

end_answered : (made : Tenancy) (answer : Result Reply Refusal) (reads : List Fetched) (gives : ℕ) (calls : List Call)
    → StandsSomehow made (call.ShardEnded ∷ []) reads gives calls
    → Settles made (after_answer made answer MarkingEnd) reads gives calls
end_answered made (Ok reply) reads gives calls h =
    inr (record { waiting = h.waiting; ending = call.ShardEnded ∷ []; stands = h.stands; ends = Ended })
end_answered made (Err r) reads gives calls h =
    leave made h.waiting (call.ShardEnded ∷ []) reads gives calls h.stands Open_ended

open_answered : (made : Tenancy) (answer : Result Reply Refusal) (reads : List Fetched) (gives : ℕ) (calls : List Call)
    → calls ≡ [] → Settles made (after_answer made answer Opening) reads gives calls
open_answered made (Ok reply) reads gives calls h = tt
open_answered made (Err (refusal.ParentsOpen parent)) reads gives calls h = tt
open_answered made (Err _) reads gives calls h = inl h

answered : (made : Tenancy) (answer : Result Reply Refusal) (stage : Stage) (reads : List Fetched) (gives : ℕ)
    (calls : List Call) → refused_at stage (Answered answer) ≡ false → Holds made stage reads gives calls
    → Settles made stage reads gives calls
    → Settles made (after_answer made answer stage) (reads ++ reads_at stage (Answered answer))
    (gives + gives_at stage (Answered answer)) calls
answered made answer (Filling reach waiting) reads gives calls r h s =
    read_answered made reach waiting answer reads gives calls h
answered made answer (Giving reach waiting target known) reads gives calls r h s =
    give_answered made reach waiting target known answer reads gives calls r h
answered made answer Opening reads gives calls r h s =
    still (λ rs n. Settles made (after_answer made answer Opening) rs n calls) reads gives
    (open_answered made answer reads gives calls h.none_called)
answered made answer (Marking reach waiting target) reads gives calls r h s =
    still (λ rs n. Settles made (after_mark reach waiting answer) rs n calls) reads gives
    (mark_answered made reach waiting answer reads gives calls h)
answered made answer MarkingEnd reads gives calls r h s =
    still (λ rs n. Settles made (after_answer made answer MarkingEnd) rs n calls) reads gives
    (end_answered made answer reads gives calls h)
answered made answer Starting reads gives calls r h s = tt
answered made answer (Holding reach waiting) reads gives calls r h s = tt
answered made answer Ending reads gives calls r h s = tt
answered made answer (Leaving why) reads gives calls r h s =
    still (λ rs n. Settles made (Leaving why) rs n calls) reads gives s
answered made answer (Over why) reads gives calls r h s =
    still (λ rs n. Settles made (Over why) rs n calls) reads gives s

-- If the consumer leaves or is over after its trace, each batch that was handed over is given.
abbrev SettlesAfter : Tenancy → Past → Type 0
SettlesAfter made past =
    Settles made (stage_after made past) (reads_after made past) (gives_after made past) (calls_after made past)

quiet : (made : Tenancy) (event : Event) (stage old : Stage) (reads : List Fetched) (gives : ℕ) (calls : List Call)
    → reads_at old event ≡ [] → gives_at old event ≡ 0 → Settles made stage reads gives calls
    → Settles made stage (reads ++ reads_at old event) (gives + gives_at old event) calls
quiet made event stage old reads gives calls r g h =
    let P : List Fetched → Type 0 = λ rs. Settles made stage (reads ++ rs) (gives + gives_at old event) calls in
    let Q : ℕ → Type 0 = λ n. Settles made stage (reads ++ []) (gives + n) calls in
    subst P (sym r) (subst Q (sym g) (still (λ rs n. Settles made stage rs n calls) reads gives h))

happens : (made : Tenancy) (event : Event) (past : Past) → refused_at (stage_after made past) event ≡ false
    → SettlesAfter made past → SettlesAfter made (event ∷ past)
happens made (Called asked) past r s =
    let n = no_reads (stage_after made past) asked in
    quiet made (Called asked) (after_event made (Called asked) (stage_after made past)) (stage_after made past)
    (reads_after made past) (gives_after made past) (calls_after made (Called asked ∷ past)) n.0 n.2
    (called made asked (stage_after made past) (reads_after made past) (gives_after made past) (calls_after made past)
    s)
happens made (Answered answer) past r s =
    answered made answer (stage_after made past) (reads_after made past) (gives_after made past) (calls_after made past)
    r (holds made past) s
happens made Losing past r s =
    let n = no_reads (stage_after made past) ask.None in
    quiet made Losing (after_loss (stage_after made past)) (stage_after made past) (reads_after made past)
    (gives_after made past) (calls_after made past) n.1 n.3
    (lost made (stage_after made past) (reads_after made past) (gives_after made past) (calls_after made past)
    (holds made past) s)

pub settles : (made : Tenancy) (past : Past) → was_refused made past ≡ false → SettlesAfter made past
settles made [] r = tt
settles made (event ∷ past) r =
    let n = or_parts (refused_at (stage_after made past) event) (was_refused made past) r in
    happens made event past n.0 (settles made past n.1)
